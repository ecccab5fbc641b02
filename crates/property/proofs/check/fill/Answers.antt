use Rattle.std.proofs.Common.{Ok, Err, sym, ap, ◌∙◌}
use Rattle.std.proofs.lemmas.Result.{err_from_is_err_and, IfOk-from_err}
use Rattle.property.specs.Drafts.{declared_in, parts_of, with_parts}
use Rattle.property.specs.Meant.{all_meant}
use Rattle.property.specs.Placed.{nodes_in, closing_in}
use Rattle.property.proofs.Filling.{sofar_none, unopened, sofar_more, sofar_refused, sofar_fault, sofar_sound, sofar_without, sofar_last}
use Rattle.property.proofs.check.fill.Goals as goal

pub returns-in_err-reader : goal.returns-in_err-reader
returns-in_err-reader c =
    let p = err_from_is_err_and c.from_residual.result c.from_residual.ensures.1 in
    record {
      answer =
          ap (λ q. with_parts q (parts_of c.args.file.now c.args.declared.now c.args.place.now)) (p.1 ∙ ap Err p.2)
          ∙ unopened c.args.file.now c.in_err-reader.field-0.0 c.in_err-reader.ensures.opened;
      closing = IfOk-from_err _ _ c.from_residual.ensures.0;
      last = IfOk-from_err _ _ c.from_residual.ensures.0;
    }

pub loop-item-init : goal.loop-item-init
loop-item-init c =
    let o = c.in_ok-reader.ensures.opened in
    sofar_none c.args.file.now c.in_ok-reader.reader.file.now c.in_ok-reader.reader.at (declared_in c.args.declared.now) (nodes_in c.args.file.now c.args.place.now) (closing_in c.args.place.now) c.args.place.now.last
    o.0 o.1 o.2 c.requires.fresh (ap (all_meant c.args.file.now) c.requires.empty.0) c.requires.empty.1 c.requires.empty.2

pub returns-in_err-item : goal.returns-in_err-item
returns-in_err-item c =
    let p = err_from_is_err_and c.from_residual-in_err-item.result c.from_residual-in_err-item.ensures.1 in
    record {
      answer =
          ap (λ q. with_parts q (parts_of c.args.file.now c.loop-item.declared c.loop-item.place)) (p.1 ∙ ap Err p.2)
          ∙ sofar_fault c.args.file.now c.loop-item.reader.file.now c.loop-item.reader.at c.next.new.self.at (parts_of c.args.file.now c.loop-item.declared c.loop-item.place) (closing_in c.loop-item.place) c.loop-item.place.last c.next.result c.loop-item.invariant c.next.ensures.hands
          c.in_err-item.field-0.0 c.in_err-item.was;
      closing = IfOk-from_err _ _ c.from_residual-in_err-item.ensures.0;
      last = IfOk-from_err _ _ c.from_residual-in_err-item.ensures.0;
    }

pub returns-in_err-take_on : goal.returns-in_err-take_on
returns-in_err-take_on c =
    let p = err_from_is_err_and c.from_residual-in_err-take_on.result c.from_residual-in_err-take_on.ensures.1 in
    record {
      answer =
          ap (λ q. with_parts q (parts_of c.args.file.now c.take_on.new.declared c.take_on.new.place)) (p.1 ∙ ap Err p.2)
          ∙ sofar_refused c.args.file.now c.loop-item.reader.file.now c.loop-item.reader.at c.next.new.self.at (parts_of c.args.file.now c.loop-item.declared c.loop-item.place) (closing_in c.loop-item.place) c.loop-item.place.last c.next.result c.loop-item.invariant c.next.ensures.hands
          (c.in-Some.item, c.in-Some.at) (c.in_ok-item.was ∙ ap Ok c.in-Some.is) c.in_err-take_on.field-0.0 c.in_err-take_on.ensures.judged;
      closing = IfOk-from_err _ _ c.from_residual-in_err-take_on.ensures.0;
      last = IfOk-from_err _ _ c.from_residual-in_err-take_on.ensures.0;
    }

pub loop-item-preserved : goal.loop-item-preserved
loop-item-preserved c =
    sofar_more c.args.file.now c.loop-item.reader.file.now c.loop-item.reader.at c.next.new.self.at (parts_of c.args.file.now c.loop-item.declared c.loop-item.place) (closing_in c.loop-item.place) c.loop-item.place.last c.next.result c.loop-item.invariant c.next.ensures.hands
    (c.in-Some.item, c.in-Some.at) (c.in_ok-item.was ∙ ap Ok c.in-Some.is) c.next.new.self.file.now (parts_of c.args.file.now c.take_on.new.declared c.take_on.new.place) (closing_in c.take_on.new.place)
    (ap (λ x. x.now) c.next.ensures.kept) c.in_ok-take_on.ensures.judged c.take_on.ensures.kept

pub returns-then-not-ends_in_loop : goal.returns-then-not-ends_in_loop
returns-then-not-ends_in_loop c =
    record {
      answer =
          sofar_without c.args.file.now c.loop-item.reader.file.now c.loop-item.reader.at c.next.new.self.at (parts_of c.args.file.now c.loop-item.declared c.loop-item.place) (closing_in c.loop-item.place) c.loop-item.place.last c.next.result c.loop-item.invariant c.next.ensures.hands
          (c.in_ok-item.was ∙ ap Ok c.in_default.is) (sym (c.if-not-ends_in_loop.ensures c.args.file.now (declared_in c.loop-item.declared)));
      closing = tt;
      last = tt;
    }

pub returns : goal.returns
returns c =
    record {
      answer =
          sofar_sound c.args.file.now c.loop-item.reader.file.now c.loop-item.reader.at c.next.new.self.at (parts_of c.args.file.now c.loop-item.declared c.loop-item.place) (closing_in c.loop-item.place) c.loop-item.place.last c.next.result c.loop-item.invariant c.next.ensures.hands
          (c.in_ok-item.was ∙ ap Ok c.in_default.is) (sym (c.if-not-ends_in_loop.ensures c.args.file.now (declared_in c.loop-item.declared)));
      closing = c.loop-item.invariant.kept.exact;
      last =
          sofar_last c.args.file.now c.loop-item.reader.file.now c.loop-item.reader.at c.next.new.self.at (parts_of c.args.file.now c.loop-item.declared c.loop-item.place) (closing_in c.loop-item.place) c.loop-item.place.last c.next.result c.loop-item.invariant c.next.ensures.hands
          (c.in_ok-item.was ∙ ap Ok c.in_default.is);
    }
