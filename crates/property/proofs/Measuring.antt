-- The sizes of all nodes as a list, and what the nodes of a checked file have for working them out.
use Rattle.std.proofs.Common.{◌≡◌, ℕ, ◌≤◌, List, length, take, Ok, sym, ap, ◌∙◌, subst, arith, length-take-le}
use Rattle.std.proofs.lemmas.List.FromFn.{fill_by_all}
use Rattle.std.proofs.lemmas.List.{get_or-take}
use Rattle.records.specs.Readings.{reading}
use Rattle.property.specs.declared.place.Nodes.{Nodes}
use Rattle.property.specs.Checks.{Parts, alphabet_of, checked}
use Rattle.property.specs.Meant.{all_meant}
use Rattle.property.specs.Nodes as N
use Rattle.property.specs.Placed.{stored, nodes_in, closing_in, closings, sizes_in, sizes_of, last_offset, PlaceAfter}
use Rattle.property.specs.Sized.{Kept, NamesEarlier, cut}
use Rattle.property.specs.Sizes.{size}
use Rattle.property.proofs.Soundness.{sound, sound_earlier}

pub measured : (ns : List N.Node) (xs : List ℕ) (count : ℕ) → count ≡ length ns → count ≤ length xs → Kept ns xs count → take count xs ≡ sizes_of ns
unfolding sizes_of
measured ns xs count e h k =
    fill_by_all (λ n. cut (size ns n)) (take count xs) (length ns) 0 (length-take-le count xs h ∙ e)
    (λ m l. get_or-take count xs m 0 (omega arith) ∙ k m (omega arith))

pub named_earlier : (file : List ℕ) (parts : Parts) → checked file ≡ Ok parts → NamesEarlier parts.nodes
named_earlier file parts e = sound_earlier (alphabet_of parts) parts.nodes (sound file parts e)

-- what reading leaves in the place on success
pub all_held : (file : List ℕ) (parts : Parts) (place last : Nodes) → checked file ≡ Ok parts → parts.nodes ≡ nodes_in file place
    → closing_in place ≡ closings (nodes_in file place) → place.last ≡ last_offset 0 (reading file).items
    → sizes_in last ≡ sizes_of (nodes_in file place) → stored last ≡ stored place → closing_in last ≡ closing_in place → last.last ≡ place.last
    → PlaceAfter file (checked file) last
all_held file parts place last e same closing offset sizes kept kept_closing kept_last =
    subst (λ r. PlaceAfter file r last) (sym e) (record {
      nodes = ap (all_meant file) kept ∙ sym same;
      closing = kept_closing ∙ closing ∙ ap closings (sym same);
      sizes = sizes ∙ ap sizes_of (sym same);
      last = kept_last ∙ offset;
      sound = sound file parts e;
    })
