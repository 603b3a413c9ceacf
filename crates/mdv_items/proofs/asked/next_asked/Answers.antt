use Rattle.std.proofs.Common.{Some, sym, ◌∙◌, ap, arith}
use Rattle.mdv_port.specs.Script.{IsTurn, Script}
use Rattle.mdv_port.specs.declared.reader.LineEnd.TheVariants.{Line}
use Rattle.mdv_items.specs.Items.{Outside}
use Rattle.mdv_items.proofs.Asking.{line_passed, not_line, some_asked}
use Rattle.mdv_items.proofs.asked.next_asked.Goals as goal

-- a line that asks for something
pub returns-then-not-asks_nothing-clause-reads : goal.returns-then-not-asks_nothing-clause-reads
returns-then-not-asks_nothing-clause-reads g c = λ script before.
    let whole = some_asked Outside _ script (c.loop-reader.invariant.reads script before) in
    let turn : IsTurn whole.0 Line c.next.new.self (g.I.Source.left c.next.new.source) = rw c.in-Line.is at (c.in_ok-end.ensures.reads whole.0 whole.1) in
    let asks = rw c.line.ensures.value at (sym c.asks_nothing.ensures ∙ c.if-not-asks_nothing.true) in
    record { whole = whole.0; same = whole.2; turn = turn; asks = asks }

-- one that is passed over
pub loop-reader-preserved : goal.loop-reader-preserved
loop-reader-preserved g c =
    let up = rw c.in-Line.is at c.in_ok-end.ensures.counts in
    let before = c.loop-reader.invariant in
    record {
      reads = λ script known.
          let whole = some_asked Outside _ script (before.reads script known) in
          let turn : IsTurn whole.0 Line c.next.new.self (g.I.Source.left c.next.new.source) = rw c.in-Line.is at (c.in_ok-end.ensures.reads whole.0 whole.1) in
          let asks = rw c.line.ensures.value at (sym c.asks_nothing.ensures ∙ c.if-not-asks_nothing.false) in
          line_passed c.next.new.self (g.I.Source.left c.next.new.source) whole.0 asks turn ∙ ap (λ (s : Script). Some s) whole.2;
      lines = let one = up.lines in let so_far = before.lines in omega arith;
      source = c.in_ok-end.ensures.cause.calm ∙ before.source;
    }

-- one that was too long, the end, and a limit
pub returns-in_default : goal.returns-in_default
returns-in_default g c =
    let before = c.loop-reader.invariant in
    let calm = c.in_ok-end.ensures.cause.calm ∙ before.source in
    record {
      reads = λ script known.
          let whole = some_asked Outside _ script (before.reads script known) in
          let turn = c.in_ok-end.ensures.reads whole.0 whole.1 in
          record { whole = whole.0; same = whole.2; turn = turn; asks = not_line c.in_ok-end.end c.next.new.self.line c.in_default.not-Line };
      passed = record { lines = let up = c.in_ok-end.ensures.counts.lines in let so_far = before.lines in omega arith; limit = c.in_ok-end.ensures.counts.line_limit };
      cause = record { later = omega (arith, sym calm); failed = tt; calm = calm };
    }
