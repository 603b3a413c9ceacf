-- Blocks of slices on which volumes may lie: what is done to the database leaves them.
use Rattle.std.proofs.Common.{◌≡◌, ℕ, Bool, true, false, List, refl, sym, ◌∙◌, subst}
use Rattle.mdv_engine_law.specs.Below.{KeptOutside, Site, Tale, site_area}
use Rattle.mdv_layout_law.specs.Laid.{plain_area}
use Rattle.mdv_volumes.proofs.Clear.{plain_beside}
use Rattle.mdv_engine_law.specs.declared.host.Host.{Host}
use Rattle.mdv_engine_law.specs.Hosts.{IsReady, key_of}
use Rattle.mdv_engine_law.specs.Line.{Memory}
use Rattle.mdv_engine_law.specs.Standing.{is_steady}
use Rattle.mdv_engine_law.proofs.Refusing.{IsFree}

pub not_true : (x : Bool) → (x ≡ true → ⊥) → x ≡ false
not_true true never = absurd (never refl)
not_true false never = refl

module _ (host : Host) (sizes : List ℕ) (ready : IsReady host sizes) where
  -- no block of a slice for volumes lies where the host's replicas may
  pub plain_outside : (drive block : ℕ) → plain_area host.drives drive block ≡ true → site_area host.site drive block ≡ false
  plain_outside drive block plain = not_true (site_area host.site drive block) (λ here. plain_beside host.drives ready.sound (key_of host) drive block plain (subst (λ (s : Site). site_area s drive block ≡ true) ready.site here))

  -- what is done to the database leaves them as they are
  pub free_kept : (old next : Memory) (t m : Tale) → KeptOutside (site_area host.site) t m → ((drive : ℕ) → is_steady next drive ≡ true → is_steady old drive ≡ true) → IsFree host old t → IsFree host next m
  free_kept old next t m kept was free drive block on plain x left =
      let same = kept drive block (plain_outside drive block plain) in free drive block (was drive on) plain x (same.left x left) ∙ sym same.last
