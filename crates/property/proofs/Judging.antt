-- One record judged: from the checks of the program to the definition.
use Rattle.std.proofs.Common.{◌≡◌, ℕ, ◌<◌, ◌≤◌, Bool, true, false, cond, not, ltb, leb, List, [], ◌∷◌, ◌++◌, length, get_or, Some, None, Ok, Err, Option, Result, sym, refl, ap, ◌∙◌, subst, arith, Bor}
use Rattle.std.proofs.lemmas.List.{length-map, map_push}
use Rattle.std.proofs.lemmas.Bool.{ne_eqb, leb-false, or_parts}
use Rattle.letters.specs.Alphabets.{barred}
use Rattle.records.specs.declared.record.Record.{Record}
use Rattle.records.specs.declared.record.Record.TheVariants.{Letter, Nothing, Choice, Sequence, Both, Lap, All}
use Rattle.records.specs.Readings.{item}
use Rattle.records.specs.Records.{kind_of}
use Rattle.property.specs.declared.fault.PropertyFault.{PropertyFault}
use Rattle.property.specs.declared.fault.PropertyFault.TheVariants.{Declaration, TooManyNodes, NotEarlier, WrongKind, BranchLetter, OpenLap}
use Rattle.property.specs.declared.node.Node.{Node}
use Rattle.property.specs.Checks.{Parts, most_nodes, named_earlier, named_kinds, letters_in_order, lap_closes, alphabet_of, barred_next, least_past, node_fault, with_letter, with_node, unless, judge}
use Rattle.property.specs.Closing.{closes_by}
use Rattle.property.specs.Drafts.{parts, with_parts, refused, Kept}
use Rattle.property.specs.Meant.{meant, all_meant}
use Rattle.property.specs.Nodes as N
use Rattle.property.proofs.Closed.{closings_more, named_more}

-- the five checks of a node
abbrev chain : Bool → Bool → Bool → Bool → Bool → ℕ → Option PropertyFault
chain full earlier kinds letters closed at =
    cond full (Some (TooManyNodes at))
    (cond (not earlier) (Some (NotEarlier at))
    (cond (not kinds) (Some (WrongKind at))
    (cond (not letters) (Some (BranchLetter at))
    (cond (not closed) (Some (OpenLap at))
    None))))

-- what a node that passed the checks has passed
passed : (full earlier kinds letters closed : Bool) (at : ℕ) → Ok tt ≡ refused (chain full earlier kinds letters closed at) → (full ≡ false) × (earlier ≡ true)
passed true b d e f at p = let z : ◌≡◌ {A = ℕ} 0 1 = cc in absurd (omega arith)
passed false true d e f at p = (refl, refl)
passed false false d e f at p = let z : ◌≡◌ {A = ℕ} 0 1 = cc in absurd (omega arith)

pub passed_room : (s : Parts) (n : N.Node) (at : ℕ) → Ok tt ≡ refused (node_fault s n at) → length s.nodes < most_nodes
passed_room s n at e =
    leb-false most_nodes (length s.nodes) (passed (leb most_nodes (length s.nodes)) (named_earlier s.nodes n) (named_kinds s.nodes n) (letters_in_order (alphabet_of s) n) (lap_closes s.nodes n) at e).0

pub passed_earlier : (s : Parts) (n : N.Node) (at : ℕ) → Ok tt ≡ refused (node_fault s n at) → named_earlier s.nodes n ≡ true
passed_earlier s n at e =
    (passed (leb most_nodes (length s.nodes)) (named_earlier s.nodes n) (named_kinds s.nodes n) (letters_in_order (alphabet_of s) n) (lap_closes s.nodes n) at e).1

-- a node put after the others
pub kept_more : (ns : List N.Node) (cs : List Bool) (x : N.Node) → Kept ns cs → named_earlier ns x ≡ true → Kept (ns ++ x ∷ []) (cs ++ closes_by ns (λ m. get_or cs m false) x ∷ [])
kept_more ns cs x k e =
    record {
      exact =
          ap (λ (bs : List Bool). bs ++ closes_by ns (λ m. get_or bs m false) x ∷ []) k.exact ∙ sym (closings_more ns x k.named e);
      named = named_more ns x k.named e;
    }

unless_refused : (o : Option PropertyFault) (s : Parts) (r : Result (Unit {0}) PropertyFault) → r ≡ refused o → with_parts r s ≡ unless o s
unless_refused None s r e = ap (λ q. with_parts q s) e
unless_refused (Some fault) s r e = ap (λ q. with_parts q s) e

-- a record of kinds 2 to 7
pub node_judged : (s : Parts) (kind : ℕ) (body : List ℕ) (at : ℕ) (r : Result (Unit {0}) PropertyFault) → 2 ≤ kind → r ≡ refused (node_fault s (N.node_of kind body) at)
    → with_parts r (with_node s (N.node_of kind body)) ≡ judge s (item kind body at)
unfolding judge
node_judged s kind body at r h e =
    let other : kind ≡ 1 → ⊥ = λ z. omega arith in
    let k = ne_eqb kind 1 other in
    rw k (unless_refused (node_fault s (N.node_of kind body) at) (with_node s (N.node_of kind body)) r e)

pub letter_barred : (s : Parts) (body : List ℕ) (at : ℕ) → barred_next s (get_or body 0 0) ≡ true → Err (Declaration at) ≡ judge s (item 1 body at)
unfolding judge
letter_barred s body at e = sym (ap (λ (t : Bool). cond t (Err (Declaration at)) (Ok (with_letter s (get_or body 0 0)))) e)

pub letter_taken : (s : Parts) (body : List ℕ) (at : ℕ) → barred_next s (get_or body 0 0) ≡ false → Ok (with_letter s (get_or body 0 0)) ≡ judge s (item 1 body at)
unfolding judge
letter_taken s body at e = sym (ap (λ (t : Bool). cond t (Err (Declaration at)) (Ok (with_letter s (get_or body 0 0)))) e)

pub not_barred : (s : Parts) (b : ℕ) → barred_next s b ≡ false → barred (least_past s.declared) (length s.declared) b ≡ false
not_barred s b e = (or_parts (ltb 0 (length s.nodes)) _ e).1

pub not_letter : (i : Record) → ((x : Bor (List ℕ)) → i ≡ Letter x → ⊥) → 2 ≤ kind_of i
not_letter (Letter b) h = absurd (h b refl)
not_letter (Nothing b) h = omega arith
not_letter (Choice b) h = omega arith
not_letter (Sequence b) h = omega arith
not_letter (Both b) h = omega arith
not_letter (Lap b) h = omega arith
not_letter (All b) h = omega arith

-- as many nodes stand there as there are
pub count_meant : (file : List ℕ) (ns : List Node) → length (all_meant file ns) ≡ length ns
count_meant file ns = length-map ns (meant file)

-- the record of a node that was checked
pub checked_node : (ds letters : List ℕ) (ns : List N.Node) (x : N.Node) (kind : ℕ) (body : List ℕ) (at : ℕ) (r : Result (Unit {0}) PropertyFault)
    → 2 ≤ kind → letters ≡ ds → x ≡ N.node_of kind body → r ≡ refused (node_fault (parts letters ns) x at)
    → with_parts r (with_node (parts ds ns) x) ≡ judge (parts ds ns) (item kind body at)
checked_node ds letters ns x kind body at r h l e f =
    ap (λ y. with_parts r (with_node (parts ds ns) y)) e
    ∙ node_judged (parts ds ns) kind body at r h
    (f ∙ ap (λ ls. refused (node_fault (parts ls ns) x at)) l ∙ ap (λ y. refused (node_fault (parts ds ns) y at)) e)

pub stored_more : (file : List ℕ) (ms ns : List Node) (x : Node) → ms ≡ ns ++ x ∷ [] → all_meant file ms ≡ all_meant file ns ++ meant file x ∷ []
stored_more file ms ns x e = ap (all_meant file) e ∙ map_push (meant file) ns x

pub kept_next : (ns ms : List N.Node) (cs ds : List Bool) (x : N.Node) (b : Bool) → Kept ns cs → named_earlier ns x ≡ true → ms ≡ ns ++ x ∷ [] → ds ≡ cs ++ b ∷ []
    → b ≡ closes_by ns (λ m. get_or cs m false) x → Kept ms ds
kept_next ns ms cs ds x b k named en ed eb =
    let P : List N.Node → Type 0 = λ ns. Kept ns ds in
    let Q : List Bool → Type 0 = λ cs. Kept (ns ++ x ∷ []) cs in
    subst P (sym en) (subst Q (sym (ed ∙ ap (λ (t : Bool). cs ++ t ∷ []) eb)) (kept_more ns cs x k named))
