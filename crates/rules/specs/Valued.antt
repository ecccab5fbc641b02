-- The meaning of a rule as a value, from the ghost members of its type.
use Rattle.rules.specs.declared.rule.Rule.{Ghosts}
use Rattle.rules.specs.Meaning.{Meaning}

abbrev pub meaning : {R : Type 0} → Ghosts R → R → Meaning
meaning g r = record {
  count = g.count r;
  start = g.start r;
  most = g.most r;
  live = g.live r;
  next = g.next r;
  owed = g.owed r;
  span = g.span r;
  lead = g.lead r;
}

-- the ghost members of a type whose values have these meanings
abbrev pub members : {R : Type 0} → (R → Meaning) → Ghosts R
members meant = record {
  count = λ r. (meant r).count;
  start = λ r. (meant r).start;
  most = λ r. (meant r).most;
  live = λ r. (meant r).live;
  next = λ r. (meant r).next;
  owed = λ r. (meant r).owed;
  span = λ r. (meant r).span;
  lead = λ r. (meant r).lead;
}
