-- A list is a trace of a node of kinds 2 to 5 exactly where the node's walk ends with it.
use Rattle.std.proofs.Common.{◌≡◌, ℕ, ◌<◌, ◌≤◌, Bool, true, false, ◌⊎◌, List, [], ◌∷◌, length, Some, None, Option, sym, refl, ap, ◌∙◌, subst, ap₂, inl, inr, arith}
use Rattle.std.proofs.lemmas.Bool.{true≢false}
use Rattle.property.specs.Nodes.{Node, Nothing, Choice, Sequence, Both, Lap, All, node, is_loop}
use Rattle.property.specs.Numbered.{before}
use Rattle.property.specs.Sizes.{itself, in_family}
use Rattle.property.specs.Sound.{PlainEarlier, SoundNode, Sound}
use Rattle.property.specs.Traces.{Trace, nothing, choice, sequence, both}
use Rattle.property.proofs.Numbering.{before_lt, from_earlier}
use Rattle.places.specs.Walks.{Outcome, Dead, Done, At, Walk, run, Ends, nothing_walk, sequence_walk, both_walk, choice_walk, Member, Branches, Whole, shift, target, offset, enter, enter_member, enter_target, member_of, walk, walk_by}
use Rattle.places.proofs.Boths.{both_ends, ends_both, both_falls}
use Rattle.places.proofs.Branches.{target_branch, branch_target, sound_at, sound_as, branch_earlier}
use Rattle.places.proofs.ByKind.{means}
use Rattle.places.proofs.Choices.{Closed, choice_falls, in_whole, at_branches}
use Rattle.places.proofs.Equations.{walk_is}
use Rattle.places.proofs.Falling.{Falls, dead≢done, at≢done, run_dead}
use Rattle.places.proofs.Families.{family_more, family_member, member_family, member_le, member_plain, member_earlier}
use Rattle.places.proofs.Sequences.{split, join, sequence_falls}

-- the walk w tells the traces of the node n
pub record Tells (nodes : List Node) (w : Walk) (n : ℕ) : Type 0 where
  pub falling : Falls w
  pub ends : (t : List ℕ) → Trace nodes n t → Ends w t
  pub trace : (t : List ℕ) → Ends w t → Trace nodes n t

nothing_falls : Falls nothing_walk
nothing_falls = record { starts = tt; falls = λ p l h. tt }

pub choice_or_whole : (w : Walk) (x : Node) → ((bs : List (ℕ × ℕ)) × (x ≡ Choice bs)) ⊎ (member_of w x ≡ Whole w)
choice_or_whole w Nothing = inr refl
choice_or_whole w (Choice bs) = inl (bs, refl)
choice_or_whole w (Sequence a b) = inr refl
choice_or_whole w (Both a b) = inr refl
choice_or_whole w (Lap a) = inr refl
choice_or_whole w (All a b) = inr refl

pub branches_choice : (w : Walk) (x : Node) (bs : List (ℕ × ℕ)) → member_of w x ≡ Branches bs → x ≡ Choice bs
branches_choice w Nothing bs e = cc
branches_choice w (Choice cs) bs e = cc
branches_choice w (Sequence a b) bs e = cc
branches_choice w (Both a b) bs e = cc
branches_choice w (Lap a) bs e = cc
branches_choice w (All a b) bs e = cc

pub whole_not_branches : (w : Walk) (bs : List (ℕ × ℕ)) → Whole w ≡ Branches bs → ⊥
whole_not_branches w bs e = let z : ◌≡◌ {A = ℕ} 0 1 = cc in omega arith

shift_done : (k : ℕ) (o : Outcome) → shift k o ≡ Done → o ≡ Done
shift_done k Dead e = absurd (dead≢done e)
shift_done k Done e = refl
shift_done k (At p) e = absurd (at≢done _ e)

-- where `walks` has walks that tell the traces of the nodes earlier than n
module _ (alphabet : List ℕ) (nodes : List Node) (sound : Sound alphabet nodes) (walks : ℕ → Walk) (n : ℕ) (within : n < length nodes)
    (earlier : (m : ℕ) → m < n → is_loop (node nodes m) ≡ false → Tells nodes (walks m) m) where
  sequence_tells : (a b : ℕ) → node nodes n ≡ Sequence a b → PlainEarlier nodes n a → PlainEarlier nodes n b → Tells nodes (sequence_walk (walks a) (walks b)) n
  sequence_tells a b e pa pb =
      let ta = earlier a pa.0 pa.1 in
      let tb = earlier b pb.0 pb.1 in
      record {
        falling = sequence_falls (walks a) (walks b) ta.falling tb.falling;
        ends = λ t h. let r = means nodes h (Sequence a b) e in rw r.2 (join (walks a) (walks b) tb.falling (walks a).start r.0 r.1 (ta.ends _ r.3) (tb.ends _ r.4));
        trace = λ t h. let r = split (walks a) (walks b) tb.falling (walks a).start t h in rw r.2 (sequence e (ta.trace _ r.3) (tb.trace _ r.4));
      }

  both_tells : (a b : ℕ) → node nodes n ≡ Both a b → PlainEarlier nodes n a → PlainEarlier nodes n b → Tells nodes (both_walk (walks a) (walks b)) n
  both_tells a b e pa pb =
      let ta = earlier a pa.0 pa.1 in
      let tb = earlier b pb.0 pb.1 in
      record {
        falling = both_falls (walks a) (walks b) ta.falling tb.falling;
        ends = λ t h. let r = means nodes h (Both a b) e in ends_both (walks a) (walks b) tb.falling _ _ t tb.falling.starts (ta.ends t r.0) (tb.ends t r.1);
        trace = λ t h. let r = both_ends (walks a) (walks b) tb.falling _ _ t tb.falling.starts h in both e (ta.trace t r.0) (tb.trace t r.1);
      }

  nothing_tells : node nodes n ≡ Nothing → Tells nodes nothing_walk n
  nothing_tells e = record {
    falling = nothing_falls;
    ends = λ t h. let r = means nodes h Nothing e in rw r;
    trace = go;
  }
    where
      go : (t : List ℕ) → Ends nothing_walk t → Trace nodes n t
      go [] h = nothing within e
      go (l ∷ t) h = absurd (dead≢done h)

  abbrev is_member : ℕ → Bool
  is_member m = in_family nodes n m

  abbrev member : ℕ → Member
  member m = member_of (walks m) (node nodes m)

  abbrev family_walk : Walk
  family_walk = choice_walk is_member member n

  module _ (bs : List (ℕ × ℕ)) (e : node nodes n ≡ Choice bs) where
    member_tells : (m : ℕ) → is_member m ≡ true → member m ≡ Whole (walks m) → Tells nodes (walks m) m
    member_tells m i w =
        let other : (cs : List (ℕ × ℕ)) → node nodes m ≡ Choice cs → ⊥ = λ cs c. whole_not_branches (walks m) cs (sym w ∙ ap (λ x. member_of (walks m) x) c) in
        earlier m (member_earlier nodes alphabet sound n bs e m i other) (member_plain nodes alphabet sound n bs e m i)

    member_closed : Closed is_member member
    member_closed = record { whole_falls = whole; leads = leads }
      where
        whole : (m : ℕ) (w : Walk) → is_member m ≡ true → member m ≡ Whole w → Falls w
        whole m w i q = elim (choice_or_whole (walks m) (node nodes m)) [
          | inl c ↦ absurd (whole_not_branches w c.0 (sym q ∙ ap (λ x. member_of (walks m) x) c.1))
          | inr h ↦ let same : walks m ≡ w = cc in rw same at (member_tells m i h).falling
        ]

        leads : (m l k : ℕ) (cs : List (ℕ × ℕ)) → is_member m ≡ true → member m ≡ Branches cs → target cs l ≡ Some k → (k < m) × (is_member k ≡ true)
        leads m l k cs i q t =
            let c = branches_choice (walks m) (node nodes m) cs q in
            let b = target_branch cs l k t in
            ((branch_earlier alphabet nodes sound l c b).0, family_member nodes alphabet sound (family_more nodes l (member_family nodes n m i) c b))

    -- the walk entered at a member ends exactly with the member's traces
    member_ends : (m : ℕ) → ((k : ℕ) → k < m → is_member k ≡ true → (u : List ℕ) → Trace nodes k u → run family_walk.step (enter is_member member k) u ≡ Done)
        → is_member m ≡ true → (t : List ℕ) → Trace nodes m t → run family_walk.step (enter is_member member m) t ≡ Done
    member_ends m ih i t r = go (choice_or_whole (walks m) (node nodes m))
      where
        m≤n : m ≤ n
        m≤n = member_le nodes alphabet sound n m i

        go : ((cs : List (ℕ × ℕ)) × (node nodes m ≡ Choice cs)) ⊎ (member m ≡ Whole (walks m)) → run family_walk.step (enter is_member member m) t ≡ Done
        go (inl c) =
            let cs = c.0 in
            let a = means nodes r (Choice cs) c.1 in
            let law = sound_as alphabet nodes sound m (Choice cs) c.1 in
            let w : member m ≡ Branches cs = ap (λ x. member_of (walks m) x) c.1 in
            let tg : target cs a.0 ≡ Some a.1 = branch_target alphabet nodes m 0 cs a.0 a.1 law a.4 in
            let led = member_closed.leads m a.0 a.1 cs i w tg in
            ap₂ (λ x u. run family_walk.step (enter_member is_member member m x) u) w a.3
            ∙ ap (λ o. run family_walk.step o a.2) (at_branches is_member member member_closed n m a.0 cs m≤n i w ∙ ap (λ x. enter_target is_member member x) tg)
            ∙ ih a.1 led.0 led.1 a.2 a.5
        go (inr w) =
            let tells = member_tells m i w in
            ap (λ x. run family_walk.step (enter_member is_member member m x) t) w
            ∙ in_whole is_member member member_closed n m (walks m) m≤n i w (walks m).start t tells.falling.starts
            ∙ ap (λ o. shift (offset is_member member m) o) (tells.ends t r)

    member_trace : (m : ℕ) → ((k : ℕ) → k < m → is_member k ≡ true → (u : List ℕ) → run family_walk.step (enter is_member member k) u ≡ Done → Trace nodes k u)
        → is_member m ≡ true → (t : List ℕ) → run family_walk.step (enter is_member member m) t ≡ Done → Trace nodes m t
    member_trace m ih i t r = go (choice_or_whole (walks m) (node nodes m))
      where
        m≤n : m ≤ n
        m≤n = member_le nodes alphabet sound n m i

        at_choice : (cs : List (ℕ × ℕ)) → node nodes m ≡ Choice cs → member m ≡ Branches cs → (t : List ℕ) → run family_walk.step (At (offset is_member member m)) t ≡ Done → Trace nodes m t
        at_choice cs c w [] g = absurd (at≢done _ g)
        at_choice cs c w (l ∷ u) g = take (target cs l) refl
          where
            on : (k : Option ℕ) → target cs l ≡ k → run family_walk.step (enter_target is_member member k) u ≡ Done
            on k q = ap (λ o. run family_walk.step o u) (sym (at_branches is_member member member_closed n m l cs m≤n i w ∙ ap (λ x. enter_target is_member member x) q)) ∙ g

            take : (k : Option ℕ) → target cs l ≡ k → Trace nodes m (l ∷ u)
            take None q = absurd (dead≢done (sym (run_dead _ u) ∙ on None q))
            take (Some k) q =
                let led = member_closed.leads m l k cs i w q in
                choice c (target_branch cs l k q) (ih k led.0 led.1 u (on (Some k) q))

        go : ((cs : List (ℕ × ℕ)) × (node nodes m ≡ Choice cs)) ⊎ (member m ≡ Whole (walks m)) → Trace nodes m t
        go (inl c) =
            let w : member m ≡ Branches c.0 = ap (λ x. member_of (walks m) x) c.1 in
            at_choice c.0 c.1 w t (ap (λ x. run family_walk.step (enter_member is_member member m x) t) (sym w) ∙ r)
        go (inr w) =
            let tells = member_tells m i w in
            let inside = in_whole is_member member member_closed n m (walks m) m≤n i w (walks m).start t tells.falling.starts in
            tells.trace t (shift_done (offset is_member member m) _ (sym inside ∙ ap (λ x. run family_walk.step (enter_member is_member member m x) t) (sym w) ∙ r))

    n_member : is_member n ≡ true
    n_member = family_member nodes alphabet sound itself

    choice_tells : Tells nodes family_walk n
    choice_tells = record {
      falling = choice_falls is_member member member_closed n n_member;
      ends = λ t h. from_earlier _ member_ends n n_member t h;
      trace = λ t h. from_earlier _ member_trace n n_member t h;
    }

  tells_by : (x : Node) → node nodes n ≡ x → SoundNode alphabet nodes n x → is_loop x ≡ false → Tells nodes (walk_by nodes walks n x) n
  tells_by Nothing e s p = nothing_tells e
  tells_by (Choice bs) e s p = choice_tells bs e
  tells_by (Sequence a b) e s p = sequence_tells a b e s.0 s.1
  tells_by (Both a b) e s p = both_tells a b e s.0 s.1
  tells_by (Lap a) e s p = absurd (true≢false p)
  tells_by (All a b) e s p = absurd (true≢false p)

pub walk_told : (alphabet : List ℕ) (nodes : List Node) → Sound alphabet nodes → (n : ℕ) → n < length nodes → is_loop (node nodes n) ≡ false → Tells nodes (walk nodes n) n
walk_told alphabet nodes sound = from_earlier (λ n. n < length nodes → is_loop (node nodes n) ≡ false → Tells nodes (walk nodes n) n) step
  where
    step : (n : ℕ) → ((m : ℕ) → m < n → m < length nodes → is_loop (node nodes m) ≡ false → Tells nodes (walk nodes m) m)
        → n < length nodes → is_loop (node nodes n) ≡ false → Tells nodes (walk nodes n) n
    step n ih within p =
        subst (λ w. Tells nodes w n) (sym (walk_is nodes n))
        (tells_by alphabet nodes sound (before nothing_walk n (λ m. walk nodes m)) n within
        (λ m h q. subst (λ w. Tells nodes w m) (sym (before_lt nothing_walk n (λ m. walk nodes m) m h)) (ih m h (omega arith) q))
        (node nodes n) refl (sound_at alphabet nodes sound n) p)
