use Rattle.std.proofs.Common.{◌≡◌, ◌∙◌, ◌==◌, true, false, List, length}
use Rattle.mdv_print.specs.Text.{set_of}
use Rattle.mdv_listing.specs.Below.{Named, Plan}
use Rattle.mdv_listing.proofs.Listed.{all_listed, named_listed}
use Rattle.mdv_listing.proofs.text.listing.Goals as goal
use Rattle.mdv_listing.proofs.text.listing.Goals.{then-is_empty+in_ok-print_tab, else-is_empty+in_ok-print_named}

pub returns : goal.returns
returns c =
    let p : Plan = c.args.table.now.plan in
    let names : List Named = c.args.names.now in
    let set = set_of c.local-key.result in
    let old = c.new-text.result.items in
    elim c.if-is_empty.branch [
      | then-is_empty+in_ok-print_tab w ↦
          let text : c.if-is_empty.text.items ≡ w.print_tab.new.out.items = cc (w.text-is) in
          let none : (length names == 0) ≡ true = cc (c.is_empty.ensures, w.if-is_empty.true) in
          text ∙ all_listed p names set w.print_tab.new.out.items old c.local-key.ensures c.new-text.ensures.items none w.in_ok-print_tab.ensures.ok
      | else-is_empty+in_ok-print_named w ↦
          let text : c.if-is_empty.text.items ≡ w.print_named.new.out.items = cc (w.text-is) in
          let some : (length names == 0) ≡ false = cc (c.is_empty.ensures, w.if-is_empty.false) in
          text ∙ named_listed p names set w.print_named.new.out.items old c.local-key.ensures c.new-text.ensures.items some w.in_ok-print_named.ensures.ok
    ]
