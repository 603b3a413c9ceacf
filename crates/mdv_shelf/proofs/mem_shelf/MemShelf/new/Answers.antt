use Rattle.std.proofs.Common.{refl, length}
use Rattle.mdv_shelf.proofs.MemFaults.{no_faults, none_lost}
use Rattle.mdv_shelf.proofs.mem_shelf.MemShelf.new.Goals as goal

pub returns : goal.returns
returns c = record {
  tale = c.in_ok-history.ensures.tale;
  sizes_are = c.in_ok-history.ensures.sizes;
  told_nothing = c.in_ok-history.ensures.told;
  no_calls = c.new-2.ensures.calls;
  no_blocks = refl;
  no_faults = no_faults (length c.args.sizes.now) c.in_ok-health.health.items (c.in_ok-health.ensures.items_if_clones_equal (λ y same. same));
  whole = refl;
  none_failing = c.new-2.ensures.failing;
  no_losses = c.new-2.ensures.losses;
  no_stop = c.new-2.ensures.stop;
  none_lost = none_lost c.args.sizes.now c.in_ok-health.health.items (c.in_ok-health.ensures.items_if_clones_equal (λ y same. same));
}
