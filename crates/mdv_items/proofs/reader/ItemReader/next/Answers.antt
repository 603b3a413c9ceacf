use Rattle.std.proofs.Common.{refl, sym, ◌∙◌}
use Rattle.mdv_port.specs.declared.reader.LineEnd.TheVariants.{End, Line, Spent, TooLong}
use Rattle.mdv_items.specs.Items.{HasReached}
use Rattle.mdv_items.proofs.Asking.{end_reached, line_reached, long_reached, spent_reached, tab_reached}
use Rattle.mdv_items.proofs.reader.ItemReader.next.Goals as goal

-- the line `tab`
pub returns-then-is_alone-clause-reads : goal.returns-then-is_alone-clause-reads
returns-then-is_alone-clause-reads g c = λ script before.
    let left = g.I.Source.left c.next_asked.new.source in
    let reached : HasReached script Line c.next_asked.new.reader left = rw c.in-Line.is at (c.in_ok-next_asked.ensures.reads script (rw (← c.self.view_is) at before)) in
    let tab = rw c.line.ensures.value at (sym c.is_alone.ensures ∙ c.if-is_alone.true) in
    c.next_tab.ensures.reads script (tab_reached c.next_asked.new.reader left script reached tab)

-- any other line
pub returns-else-is_alone-clause-reads : goal.returns-else-is_alone-clause-reads
returns-else-is_alone-clause-reads g c = λ script before.
    let left = g.I.Source.left c.next_asked.new.source in
    let reached : HasReached script Line c.next_asked.new.reader left = rw c.in-Line.is at (c.in_ok-next_asked.ensures.reads script (rw (← c.self.view_is) at before)) in
    let other = rw c.line.ensures.value at (sym c.is_alone.ensures ∙ c.if-is_alone.false) in
    line_reached _ left script reached other refl

-- one that was too long, the end, and a limit
pub returns-in-TooLong-clause-reads : goal.returns-in-TooLong-clause-reads
returns-in-TooLong-clause-reads g c = λ script before.
    let left = g.I.Source.left c.next_asked.new.source in
    let reached : HasReached script TooLong c.next_asked.new.reader left = rw c.in-TooLong.is at (c.in_ok-next_asked.ensures.reads script (rw (← c.self.view_is) at before)) in
    long_reached _ left script reached

pub returns-in-End-clause-reads : goal.returns-in-End-clause-reads
returns-in-End-clause-reads g c = λ script before.
    let left = g.I.Source.left c.next_asked.new.source in
    let reached : HasReached script End c.next_asked.new.reader left = rw c.in-End.is at (c.in_ok-next_asked.ensures.reads script (rw (← c.self.view_is) at before)) in
    end_reached _ left script reached

pub returns-in-Spent-clause-reads : goal.returns-in-Spent-clause-reads
returns-in-Spent-clause-reads g c = λ script before.
    let left = g.I.Source.left c.next_asked.new.source in
    let reached : HasReached script (Spent c.in-Spent.lines c.in-Spent.bytes) c.next_asked.new.reader left =
    rw c.in-Spent.is at (c.in_ok-next_asked.ensures.reads script (rw (← c.self.view_is) at before)) in
    spent_reached _ left script c.in-Spent.lines c.in-Spent.bytes reached
