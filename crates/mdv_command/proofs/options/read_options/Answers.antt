use Rattle.std.proofs.Common.{◌≡◌, ◌<◌, length, arith}
use Rattle.std.proofs.lemmas.Bool.Decides.{nat_tests}
use Rattle.mdv_command.proofs.Reading.{options_more, options_stop, bad_word, lone_dash, dashed_word, fewer}
use Rattle.mdv_command.proofs.options.read_options.Goals as goal

pub returns-then-is_empty : goal.returns-then-is_empty
returns-then-is_empty c =
    let none : length c.in-Some-behind_dash.letters.now ≡ 0 = grind (arith, nat_tests) in
    options_stop _ _ _ _ _ c.loop-word.invariant (dashed_word _ _ _ _ c.in-Some.ensures.word.words c.in-Some-behind_dash.ensures.value)
    (lone_dash _ _ _ _ _ _ c.in-Some.ensures.word.words c.in-Some-behind_dash.ensures.value none)

pub returns-in_default-2 : goal.returns-in_default-2
returns-in_default-2 c =
    let some : 0 < length c.in-Some-behind_dash.letters.now = grind (arith, nat_tests) in
    options_stop _ _ _ _ _ c.loop-word.invariant (dashed_word _ _ _ _ c.in-Some.ensures.word.words c.in-Some-behind_dash.ensures.value)
    (bad_word _ _ _ _ _ _ c.in-Some.ensures.word.words c.in-Some-behind_dash.ensures.value some (rw c.in_default-2.is at c.in_ok-on.ensures))

pub loop-word-preserved : goal.loop-word-preserved
loop-word-preserved c =
    let some : 0 < length c.in-Some-behind_dash.letters.now = grind (arith, nat_tests) in
    options_more _ _ _ _ _ _ _ _ _ _ c.loop-word.invariant c.in-Some.ensures.word.words c.in-Some-behind_dash.ensures.value some (rw c.in-Some-2.is at c.in_ok-on.ensures)

pub loop-word-smaller : goal.loop-word-smaller
loop-word-smaller c = fewer c.args.flags.now c.args.values.now c.in-Some-behind_dash.letters.now _ _ _ _ _ _ c.in-Some.ensures.word.words (rw c.in-Some-2.is at c.in_ok-on.ensures)
