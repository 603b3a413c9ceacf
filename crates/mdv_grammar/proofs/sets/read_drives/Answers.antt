use Rattle.std.proofs.Common.{◌≡◌, length, arith}
use Rattle.std.proofs.lemmas.Bool.Decides.{nat_tests}
use Rattle.mdv_grammar.proofs.Hosts.{drives_more, drives_stop, drives_wanting}
use Rattle.mdv_grammar.proofs.sets.read_drives.Goals as goal

pub returns-in_default-parse_drive : goal.returns-in_default-parse_drive
returns-in_default-parse_drive c = drives_stop _ _ _ _ _ c.loop-word.invariant c.in-Some.ensures.word.words c.in_default-parse_drive.ensures.none

pub loop-word-preserved : goal.loop-word-preserved
loop-word-preserved c = drives_more _ _ _ _ _ _ _ c.loop-word.invariant c.in-Some.ensures.word.words c.in-Some-parse_drive.ensures.value c.in-Some-parse_drive.ensures.form c.in_ok-push.ensures.ok

pub returns-then-is_empty : goal.returns-then-is_empty
returns-then-is_empty c =
    let none : length c.loop-word.drives ≡ 0 = grind (arith, nat_tests) in
    drives_wanting _ _ _ c.loop-word.invariant c.in_default.ensures.none none
