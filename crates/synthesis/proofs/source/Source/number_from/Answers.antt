use Rattle.std.proofs.Common.{ap, ◌∙◌, arith}
use Rattle.synthesis.proofs.Marking.{marked_within}
use Rattle.synthesis.proofs.Letters.{among_at}
use Rattle.synthesis.proofs.Numbering.{following_more, grown_none}
use Rattle.synthesis.proofs.source.Source.number_from.Goals as goal

pub number_by-found-requires : goal.number_by-found-requires
number_by-found-requires g c = record {
  live_len = c.requires.live_len;
  numbering = c.loop-letter.invariant.numbered;
  marked = c.loop-letter.invariant.grown.kept c.args.place c.requires.marked;
}

pub loop-letter-init : goal.loop-letter-init
loop-letter-init g c = record { numbered = c.requires.numbering; grown = grown_none _ _ _; followed = λ i h. absurd (omega arith) }

pub loop-letter-preserved : goal.loop-letter-preserved
loop-letter-preserved g c = following_more _ _ _ _ _ _ _ _ _ _ _ _ _ _ c.loop-letter.invariant c.number_by-found.ensures.numbered c.number_by-found.ensures.grown c.number_by-found.ensures.followed

pub returns : goal.returns
returns g c = record {
  numbered = c.loop-letter.invariant.numbered;
  grown = c.loop-letter.invariant.grown;
  followed = λ l q e v.
      let inside = marked_within c.args.rows.now c.args.place c.requires.marked in
      let j = among_at l c.args.self.now.letters.now (c.args.self.now.fillable.fair.lettered c.args.place l q (omega (arith, c.requires.numbering.rows_long)) e) in
      c.loop-letter.invariant.followed j.0 (omega (arith, j.1)) q (ap (λ x. (g.P.Places.meaning c.args.self.now.places.now).next c.args.place x) j.2 ∙ e) v;
}
