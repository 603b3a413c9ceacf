use Rattle.std.proofs.Common.{codes, refl, sym, ◌∙◌, ap, arith}
use Rattle.mdv_port.specs.Script.{IsTurn}
use Rattle.mdv_port.specs.declared.reader.LineEnd.TheVariants.{End, Line, Spent, TooLong}
use Rattle.mdv_items.specs.Items.{Items, is_alone}
use Rattle.mdv_items.proofs.Blocks.{cut, ended, passed, stopped, went_on, within_of, within_start}
use Rattle.mdv_items.proofs.reader.ItemReader.next_tab.Goals as goal

-- the first line of the block
pub loop-self-init : goal.loop-self-init
loop-self-init g c =
    record {
      reads = λ script before. within_start script _ _ (rw (← c.self.view_is) at before) c.begin.ensures;
      lines = omega (arith, ap (λ (i : Items). i.reader.lines) c.self.view_is);
      source = refl;
    }

-- the line `end`
pub returns-then-is_alone-clause-reads : goal.returns-then-is_alone-clause-reads
returns-then-is_alone-clause-reads g c = λ script before.
    let left = g.I.Source.left c.next.new.source in
    let w = within_of script _ _ _ c.self-in-loop-self.view_is (c.loop-self.invariant.reads script before) in
    let turn : IsTurn w.now Line c.next.new.self left = rw c.in-Line.is at (c.in_ok-next.ensures.reads w.now w.before) in
    let ends = rw c.line.ensures.value at (sym {b = is_alone (codes "end") c.line.result.now} c.is_alone.ensures ∙ c.if-is_alone.true) in
    ended script _ c.taken.new.self _ left w c.taken.result _ refl ends turn c.taken.ensures

-- any other line of the block
pub loop-self-preserved-in-Line : goal.loop-self-preserved-in-Line
loop-self-preserved-in-Line g c =
    let up = rw c.in-Line.is at c.in_ok-next.ensures.counts in
    let so_far = c.loop-self.invariant in
    let view = ap (λ (i : Items). i.reader.lines) c.self-in-loop-self.view_is in
    record {
      reads = λ script before.
          let left = g.I.Source.left c.next.new.source in
          let w = within_of script _ _ _ c.self-in-loop-self.view_is (so_far.reads script before) in
          let turn : IsTurn w.now Line c.next.new.self left = rw c.in-Line.is at (c.in_ok-next.ensures.reads w.now w.before) in
          let goes_on = rw c.line.ensures.value at (sym {b = is_alone (codes "end") c.line.result.now} c.is_alone.ensures ∙ c.if-is_alone.false) in
          went_on script _ _ _ left w goes_on turn (rw c.line-in-Line.ensures.value at (c.push.ensures w.lines w.long w.gathers));
      lines = let one = up.lines in let before = so_far.lines in omega (arith, view);
      source = c.in_ok-next.ensures.cause.calm ∙ so_far.source;
    }

-- one that is too long
pub loop-self-preserved : goal.loop-self-preserved
loop-self-preserved g c =
    let up = rw c.in-TooLong.is at c.in_ok-next.ensures.counts in
    let so_far = c.loop-self.invariant in
    let view = ap (λ (i : Items). i.reader.lines) c.self-in-loop-self.view_is in
    record {
      reads = λ script before.
          let left = g.I.Source.left c.next.new.source in
          let w = within_of script _ _ _ c.self-in-loop-self.view_is (so_far.reads script before) in
          let turn : IsTurn w.now TooLong c.next.new.self left = rw c.in-TooLong.is at (c.in_ok-next.ensures.reads w.now w.before) in
          passed script _ _ _ left w turn (c.pass.ensures w.lines w.long w.gathers);
      lines = let one = up.lines in let before = so_far.lines in omega (arith, view);
      source = c.in_ok-next.ensures.cause.calm ∙ so_far.source;
    }

-- the script's end, and a limit
pub returns-in-End-clause-reads : goal.returns-in-End-clause-reads
returns-in-End-clause-reads g c = λ script before.
    let left = g.I.Source.left c.next.new.source in
    let w = within_of script _ _ _ c.self-in-loop-self.view_is (c.loop-self.invariant.reads script before) in
    let turn : IsTurn w.now End c.next.new.self left = rw c.in-End.is at (c.in_ok-next.ensures.reads w.now w.before) in
    cut script _ c.taken-in-End.new.self _ left w c.taken-in-End.result _ refl turn c.taken-in-End.ensures

pub returns-in-Spent-clause-reads : goal.returns-in-Spent-clause-reads
returns-in-Spent-clause-reads g c = λ script before.
    let left = g.I.Source.left c.next.new.source in
    let w = within_of script _ _ _ c.self-in-loop-self.view_is (c.loop-self.invariant.reads script before) in
    let turn : IsTurn w.now (Spent c.in-Spent.lines c.in-Spent.bytes) c.next.new.self left = rw c.in-Spent.is at (c.in_ok-next.ensures.reads w.now w.before) in
    stopped script _ _ _ left w c.in-Spent.lines c.in-Spent.bytes turn
