use Rattle.std.proofs.Common.{sym, ◌∙◌, ap, subst, Option, Some}
use Rattle.mdv_text.specs.Words.{words}
use Rattle.mdv_name.specs.declared.entry.Entry.{Entry}
use Rattle.mdv_name.specs.Entry.{IsEntryRead}
use Rattle.mdv_name.proofs.Entries.{line_answer}
use Rattle.mdv_name.proofs.geometry.Geometry.add_line.Goals as goal

pub returns : goal.returns
returns c =
    let read : IsEntryRead (Some c.in-Some.entry) (words c.content_of-content.result.now) = subst (λ (o : Option Entry). IsEntryRead o (words c.content_of-content.result.now)) c.in-Some.is c.in_ok-entry.ensures in
    line_answer c.args.self.now c.add.new.self c.args.line.now c.in-Some.entry c.in_ok-added.added (λ counts. let yes = c.counts_for_nothing.ensures.1 counts in let refused = c.if-counts_for_nothing.false in cc) read.0 (
    ap words (sym c.content_of-content.ensures) ∙ read.1
    ) c.in_ok-added.ensures
