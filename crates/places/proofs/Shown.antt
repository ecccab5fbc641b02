-- The theorems, from their parts.
use Rattle.std.proofs.Common.{sym, ◌∙◌, inl, inr}
use Rattle.std.proofs.lemmas.Bool.{cases_Bool}
use Rattle.letters.specs.Alphabets.{among}
use Rattle.rules.proofs.Follows.{none_some}
use Rattle.places.specs.Theorems.{WalksEndWithTraces, BeginningsLeadToLive, PlacesAreSize, PlacesAreFair}
use Rattle.places.proofs.Beginnings.{loop_told, beginning_live, live_beginning}
use Rattle.places.proofs.Letters.{loop_heeded}
use Rattle.places.proofs.Lowering.{loop_lowers}
use Rattle.places.proofs.Sizes.{loop_size}
use Rattle.places.proofs.Traces.{walk_told}

pub walks_end : WalksEndWithTraces
walks_end alphabet nodes sound n h p t = let w = walk_told alphabet nodes sound n h p in (λ x. w.ends t x, λ x. w.trace t x)

pub beginnings_lead : BeginningsLeadToLive
beginnings_lead alphabet nodes sound n h p t = (λ b. beginning_live alphabet nodes sound n h p t b, λ v. live_beginning alphabet nodes sound n h p t v)

pub places_sized : PlacesAreSize
places_sized alphabet nodes sound n h p = loop_size alphabet nodes sound n p

pub places_fair : PlacesAreFair
places_fair alphabet nodes sound n h p =
    let told = loop_told alphabet nodes sound n h p in
    record {
      starts = told.bounded;
      stays = told.stays;
      lettered = λ x l q i e. elim (cases_Bool (among l alphabet)) [ inl a ↦ a | inr a ↦ absurd (none_some (sym (loop_heeded alphabet nodes sound n x l a) ∙ e)) ];
      falls = loop_lowers alphabet nodes sound n h p;
    }
