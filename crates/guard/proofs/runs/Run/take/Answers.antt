use Rattle.std.proofs.Common.{◌≡◌, ℕ, List, [], ◌∷◌, ◌++◌, length, vec_items, sym, ap, ◌∙◌, arith}
use Rattle.std.proofs.lemmas.List.{length-take-le}
use Rattle.rules.specs.Valued.{meaning}
use Rattle.guard.specs.declared.runs.Reply.{Reply}
use Rattle.guard.specs.Histories.{Step, step, number_written}
use Rattle.guard.proofs.Making.{over_within, over_front, step_count}
use Rattle.guard.proofs.runs.Run.take.Goals as goal

pub slice_bounds-extend_from_slice-end : goal.slice_bounds-extend_from_slice-end
slice_bounds-extend_from_slice-end g c =
    let m = meaning g.R.Rule c.args.rule.now in
    let s : Step = step m c.args.self.guard c.args.call in
    let n : c.written.result ≡ length s.wrote = c.written.ensures ∙ ap number_written c.make-guard.ensures.reply ∙ step_count m c.args.self.guard c.args.call in
    let h = over_within s.wrote c.as_mut_slice-out.result.now c.make-guard.new.out c.make-guard.ensures.wrote c.make-guard.auto.out in
    sym (length-take-le _ _ (omega (arith, n, h, c.make-guard.auto.out)))

pub returns : goal.returns
returns g c =
    let m = meaning g.R.Rule c.args.rule.now in
    let s : Step = step m c.args.self.guard c.args.call in
    let made = c.make-guard.ensures in
    let n : c.written.result ≡ length s.wrote = c.written.ensures ∙ ap number_written made.reply ∙ step_count m c.args.self.guard c.args.call in
    let front = over_front s.wrote c.as_mut_slice-out.result.now c.make-guard.new.out _ c.make-guard.ensures.wrote n in
    record {
      guard = made.guard;
      replies = c.in_ok-push.ensures.items ∙ ap (λ (r : Reply). vec_items c.args.self.replies ++ r ∷ []) made.reply;
      line_is = c.in_ok-extend_from_slice.ensures.items ∙ ap (λ (xs : List ℕ). vec_items c.args.self.line ++ xs) front;
    }
