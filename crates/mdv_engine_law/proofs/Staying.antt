-- What happens stays within the blocks that a host's run may touch.
use Rattle.std.proofs.Common.{◌≡◌, ℕ, List, Option, IfSome, refl, sym, ◌∙◌}
use Rattle.std.proofs.lemmas.Bool.{false≢true}
use Rattle.mdv_engine_law.specs.Below.{IsKept, IsOff, KeptOutside, Map, Moments, Tale, VolId, nowhere, site_area}
use Rattle.mdv_layout_law.specs.Laid.{plain_area}
use Rattle.mdv_config.specs.Table.{IsOfGeometry}
use Rattle.mdv_shelf.proofs.Frame.{kept_outside_same, kept_outside_more, kept_outside_left, neither}
use Rattle.mdv_shelf.proofs.Moments.{moments_none, moments_weaker, moments_more}
use Rattle.mdv_engine_law.specs.declared.host.Host.{Host}
use Rattle.mdv_engine_law.specs.Hosts.{IsReady, StaysHome, host_area}
use Rattle.mdv_engine_law.specs.Line.{Ask, HasBlocks, Memory}
use Rattle.mdv_engine_law.specs.Standing.{BootMoment, TurnMoment}
use Rattle.mdv_engine_law.proofs.Beside.{lies_plain}
use Rattle.mdv_engine_law.proofs.Refusing.{opened_has}

module _ (host : Host) where
  pub stays_same : (t : Tale) → StaysHome host t t
  stays_same t = kept_outside_same (host_area host) t

  pub stays_more : (t u m : Tale) → StaysHome host t u → StaysHome host u m → StaysHome host t m
  stays_more t u m first second = kept_outside_more (host_area host) t u m first second

  -- where no block changes
  pub stays_still : (t m : Tale) → KeptOutside nowhere t m → StaysHome host t m
  stays_still t m kept drive block out = kept drive block refl

  -- within the slices on which its replicas may lie
  pub stays_on_site : (t m : Tale) → KeptOutside (site_area host.site) t m → StaysHome host t m
  stays_on_site t m kept = kept_outside_left (site_area host.site) (plain_area host.drives) t m kept

  -- within blocks of a volume of the open database
  pub stays_in_volume : (sizes : List ℕ) → IsReady host sizes → (memory : Memory) (volume : VolId) (at count : ℕ) (v : Map) → HasBlocks host memory volume at count v
      → IfSome memory.opened (λ o. IsOfGeometry host.drives o.table) → (t m : Tale) → ((drive block : ℕ) → IsOff v at count drive block → IsKept t m drive block) → StaysHome host t m
  stays_in_volume sizes ready memory volume at count v there listed t m kept drive block out =
      let table = opened_has memory there.o (λ o. IsOfGeometry host.drives o.table) there.opened listed in
      let beside = (neither (site_area host.site drive block) (plain_area host.drives drive block) out).1 in
      kept drive block (λ k lt has. false≢true (sym beside ∙ lies_plain host ready.sound memory volume at count v there table k drive block lt has))

  -- the same of all moments
  pub nothing_stays : (a b : Option Tale) → b ≡ a → Moments (StaysHome host) a b
  nothing_stays a b same = moments_none (StaysHome host) a b same stays_same

  pub both_stay : (a b c : Option Tale) → Moments (StaysHome host) a b → Moments (StaysHome host) b c → Moments (StaysHome host) a c
  both_stay a b c = moments_more (StaysHome host) (StaysHome host) (StaysHome host) a b c (λ t m stays. stays) stays_more

  pub boot_stays : (a b : Option Tale) → Moments (BootMoment host) a b → Moments (StaysHome host) a b
  boot_stays a b = moments_weaker (BootMoment host) (StaysHome host) a b (λ t m moment. stays_on_site t m moment.kept)

  pub turn_stays : (ask : Ask) (old : Memory) (a b : Option Tale) → Moments (TurnMoment host ask old) a b → Moments (StaysHome host) a b
  turn_stays ask old a b = moments_weaker (TurnMoment host ask old) (StaysHome host) a b (λ t m moment. moment.home)
