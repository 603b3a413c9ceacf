-- What the events of a log issue and begin where places come and go, and what of it a run may.
use Rattle.std.proofs.Common.{◌≡◌, inl, inr, List, [], ◌∷◌, Option, Some, None, map, Contains, refl, sym, ap, subst, arith}
use Rattle.mdv_engine_law.specs.Below.{Change, Changed, Deed, Identity, Issue, Key, OfCreation, OfEnd, Place}
use Rattle.mdv_store_law.specs.Log as log
use Rattle.mdv_store_law.specs.Log.{ChangesAndPlaces, IsAskable}
use Rattle.mdv_store_law.specs.Machine.{AreAll, all_of}
use Rattle.mdv_store_law.specs.Part.{IsPart}
use Rattle.mdv_store_law.proofs.Parts.{part_all}
use Rattle.mdv_volumes.specs.Happening.{begun_at, deed_of}
use Rattle.mdv_volumes.specs.HistoryLaws.{AreLater}
use Rattle.mdv_volumes.proofs.Lists.{first_or_behind}
use Rattle.mdv_engine_law.specs.declared.host.Host.{Host}
use Rattle.mdv_engine_law.specs.Hosts.{key_of}
use Rattle.mdv_engine_law.specs.Standing.{AddsThese, IsOfRun}

-- what a list has is a part of it
pub part_one : {X : Type 0} (xs : List X) (x : X) → Contains xs x → IsPart (x ∷ []) xs
part_one [] x has = absurd (omega (arith, has.1))
part_one (y ∷ xs) x has = elim (first_or_behind y x xs has) [ inl here ↦ inl (sym here, tt) | inr there ↦ inr (part_one xs x there) ]

-- where no creation is issued all are later ones
pub later_by : (Which : Issue → Type 0) → ((identity : Identity) → Which (OfCreation identity) → ⊥) → (es : List log.Event) → AreAll (log.IsIssue Which) es → AreLater es
later_by Which never [] is = tt
later_by Which never (log.Issued identity ∷ es) is = absurd (never identity is.0)
later_by Which never (log.Writing mark asked before table ∷ es) is = (tt, later_by Which never es is.1)
later_by Which never (log.Written ∷ es) is = (tt, later_by Which never es is.1)
later_by Which never (log.Told which before ∷ es) is = (tt, later_by Which never es is.1)
later_by Which never (log.Placing places ∷ es) is = (tt, later_by Which never es is.1)
later_by Which never (log.Clearing ∷ es) is = (tt, later_by Which never es is.1)
later_by Which never (log.Gone ∷ es) is = (tt, later_by Which never es is.1)

-- where no end is issued they begin creations and changes alone
pub begun_by : (Which : Issue → Type 0) → (Which OfEnd → ⊥) → (key : Key) (es : List log.Event) → AreAll (log.IsIssue Which) es → all_of (begun_at key) es ≡ map (deed_of key) (log.begun_by es)
begun_by Which never key [] is = refl
begun_by Which never key (log.Issued identity ∷ es) is = ap (λ (l : List Deed). deed_of key None ∷ l) (begun_by Which never key es is.1)
begun_by Which never key (log.Writing mark None before table ∷ es) is = begun_by Which never key es is.1
begun_by Which never key (log.Writing mark (Some change) before table ∷ es) is = ap (λ (l : List Deed). deed_of key (Some change) ∷ l) (begun_by Which never key es is.1)
begun_by Which never key (log.Written ∷ es) is = begun_by Which never key es is.1
begun_by Which never key (log.Told which before ∷ es) is = begun_by Which never key es is.1
begun_by Which never key (log.Placing places ∷ es) is = begun_by Which never key es is.1
begun_by Which never key (log.Clearing ∷ es) is = absurd (never is.0)
begun_by Which never key (log.Gone ∷ es) is = begun_by Which never key es is.1

-- what a move issues a run may that is asked its change
module _ (host : Host) (asks : List Deed) (change : Change) (places : List Place) (asked : Contains asks (Changed (key_of host) change)) (adds : AddsThese change places) where
  pub move_issued : (es : List log.Event) → AreAll (log.IsIssue (ChangesAndPlaces places)) es → AreAll (IsAskable (IsOfRun host asks)) (log.begun_by es) → AreAll (log.IsIssue (IsOfRun host asks)) es
  move_issued [] is of = tt
  move_issued (log.Issued identity ∷ es) is of = absurd is.0
  move_issued (log.Writing mark None before table ∷ es) is of = (tt, move_issued es is.1 of)
  move_issued (log.Writing mark (Some c) before table ∷ es) is of = (of.0, move_issued es is.1 of.1)
  move_issued (log.Written ∷ es) is of = (tt, move_issued es is.1 of)
  move_issued (log.Told which before ∷ es) is of = (tt, move_issued es is.1 of)
  move_issued (log.Placing others ∷ es) is of = ((change, asked, subst (AddsThese change) (sym is.0) adds), move_issued es is.1 of)
  move_issued (log.Clearing ∷ es) is of = absurd is.0
  move_issued (log.Gone ∷ es) is of = (tt, move_issued es is.1 of)

  pub move_issues : (changes : List (Option Change)) (es : List log.Event) → AreAll (log.IsIssue (ChangesAndPlaces places)) es → IsPart (log.begun_by es) changes → AreAll (IsAskable (IsOfRun host asks)) changes → AreAll (log.IsIssue (IsOfRun host asks)) es
  move_issues changes es is within are = move_issued es is (part_all (IsAskable (IsOfRun host asks)) (log.begun_by es) changes within are)
