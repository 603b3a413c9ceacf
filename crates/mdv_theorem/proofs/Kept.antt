-- What no change takes from a table, unless it takes a volume away, stays so of each that a boot may find, over lines of a run; unless one of them may have taken the volume away.
use Rattle.std.proofs.Common.{◌⊎◌, inl, inr, ℕ, List, subst}
use Rattle.mdv_base.specs.declared.name.VolId.{VolId}
use Rattle.mdv_engine_law.specs.Hosts.{key_of}
use Rattle.mdv_engine_law.specs.declared.host.Host.{Host}
use Rattle.mdv_engine_law.proofs.Going.{may_course}
use Rattle.mdv_plan.specs.declared.table.Table.{Table}
use Rattle.mdv_volumes.specs.Databases.{log_of}
use Rattle.mdv_volumes.specs.History.{History}
use Rattle.mdv_volumes.proofs.Found.{AreLasting}
use Rattle.mdv_volumes.proofs.Lasting.{lasts_over, volume_kept}
use Rattle.mdv_volumes.proofs.Lists.{contains_behind, contains_first}
use Rattle.mdv_volumes.proofs.Made.{VolumeStays}
use Rattle.mdv_theorem.specs.Exchanges.{Exchange}
use Rattle.mdv_theorem.specs.Words.{MayTakeAway}
use Rattle.mdv_theorem.proofs.Ends.{TakeVolume, led_keeps}
use Rattle.mdv_theorem.proofs.Leading.{IsLed}
use Rattle.mdv_theorem.proofs.Steps.{Between, Steps, no_step, one_step, skipped}
use Rattle.mdv_theorem.proofs.Tables.{IsCarried, Keeps, keeps_idle}

module _ (host : Host) (volume : VolId) (P : Table → Type 0) (carried : IsCarried host.drives volume P) where
  -- over a line that was answered
  pub keeps_or_takes : (one : Exchange) (from mid : Between host) → IsLed host one from.sure.history mid.sure.history → Keeps host P from → MayTakeAway volume one ⊎ Keeps host P mid
  keeps_or_takes one from mid led are = elim (led_keeps host volume one from.sure.history mid.sure.history led) [
    | inl takes ↦ inl takes
    | inr (lives, stays) ↦
        let key = key_of host in
        let on = lasts_over host.drives key P (VolumeStays volume) carried from.sure.history led.es (may_course host from.sure.history led.es led.course) lives (volume_kept key volume led.es stays) are in
        inr (subst (λ (g : History). AreLasting host.drives P (log_of g.databases key)) led.is on)
  ]

  -- and over lines, one behind the other
  pub keeps_over : (Failed : ℕ → Type 0) (from last : Between host) (es : List Exchange) → Keeps host P from → Steps host Failed from es last → TakeVolume volume es ⊎ Keeps host P last
  keeps_over Failed from last es are (no_step at) = inr are
  keeps_over Failed from last es are (skipped at mid end rest same idled steps) = keeps_over Failed mid last es (keeps_idle host volume P carried from mid idled are) steps
  keeps_over Failed from last es are (one_step calls at mid end one answer rest unfailed comes said told writes led steps) = elim (keeps_or_takes one from mid led are) [
    | inl takes ↦ inl (one, contains_first one rest, takes)
    | inr now ↦ elim (keeps_over Failed mid last rest now steps) [
      | inl takes ↦ inl (takes.0, contains_behind one takes.0 rest takes.1, takes.2)
      | inr still ↦ inr still
    ]
  ]
