use Rattle.std.proofs.Common.{◌≡◌, refl, subst, List}
use Rattle.mdv_print.specs.Text.{tab_text}
use Rattle.mdv_print.proofs.Printed.{tab_is}
use Rattle.mdv_tab.specs.Order.{IsOrderOfNeed}
use Rattle.mdv_tab.proofs.OneTab.{one_tab}
use Rattle.mdv_remake.specs.Again.{IsMadeAgain}
use Rattle.mdv_remake.specs.Below.{Entry, entries_of}
use Rattle.mdv_remake.specs.Making.{at_places}
use Rattle.mdv_remake.proofs.Orders.{made_again}
use Rattle.mdv_remake.proofs.law.prints_make_again.Goals as goal

pub returns : goal.returns
returns c = λ g drives set t entries order is_now printable tab need.
    let is : entries_of set t.plan ≡ entries = one_tab (tab_text set t.plan) (entries_of set t.plan) entries (tab_is set t.plan printable.named printable.whole printable.bytes printable.entries) tab in
    subst (λ (es : List Entry). IsOrderOfNeed es order → IsMadeAgain g drives t (at_places es order)) is (λ in_order.
    let done = made_again g drives t.plan set is_now order in_order t refl in
    record { new = done.0; made = done.1; same = done.2 }) need
