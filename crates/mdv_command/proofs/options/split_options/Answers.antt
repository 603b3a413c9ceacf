use Rattle.std.proofs.Common.{◌≡◌, true, false, sym, ◌∙◌, ap}
use Rattle.mdv_command.specs.Given.{is_once}
use Rattle.mdv_command.proofs.OneOption.{one_options}
use Rattle.mdv_command.proofs.options.split_options.Goals as goal

pub returns-in_default : goal.returns-in_default
returns-in_default c = let none = rw c.in_default.is at c.in_ok-given.ensures in λ gs rest are. none gs rest are.0

pub returns-then-not-is_once : goal.returns-then-not-is_once
returns-then-not-is_once c =
    let read = rw c.in-Some.is at c.in_ok-given.ensures in λ gs rest are.
    let same = one_options _ _ _ _ _ _ _ are.0 read in
    let never : true ≡ false = sym are.1 ∙ ap is_once same.0 ∙ ap is_once (sym c.as_slice.ensures) ∙ sym c.is_once.ensures ∙ c.if-not-is_once.true in
    cc
