-- What a line asks by its words and its reply, and what it may have begun.
use Rattle.std.proofs.Common.{◌≡◌, ◌⊎◌, inl, inr, ℕ, ◌+◌, ◌<◌, Option, None, Some, slice_index_or, Bool, true, false, ◌||◌, cond, if◌then◌else◌, List, [], ◌∷◌, length, Contains, refl, sym, ◌∙◌, subst, arith}
use Rattle.std.specs.Str.{bytes_eq}
use Rattle.std.proofs.lemmas.Slice.Eq.{bytes_eq-Decides}
use Rattle.mdv_base.specs.declared.drive.SliceName.{SliceName}
use Rattle.mdv_base.specs.declared.name.Key.{Key}
use Rattle.mdv_base.specs.declared.refusal.Refusal.{Refusal}
use Rattle.mdv_base.specs.declared.refusal.Refusal.TheVariants.{IoFault}
use Rattle.mdv_engine_law.specs.Altering.{Alters, change_of}
use Rattle.mdv_engine_law.specs.Hosts.{key_of}
use Rattle.mdv_engine_law.specs.Line.{Ask, Nothing, asked_by_line, change_asked, deeds}
use Rattle.mdv_engine_law.specs.Replies.{issuable, ok_line, refusal_line}
use Rattle.mdv_engine_law.specs.declared.host.Host.{Host}
use Rattle.mdv_run_law.specs.Standing.{Asks as AsksWords}
use Rattle.mdv_store_law.specs.Changes.{AddListed, AddPlaces, Change, DropPlaces, FirstPlace, OfPlan}
use Rattle.mdv_change.specs.declared.change.Change.{Change as PlanChange}
use Rattle.mdv_volumes.specs.History.{Changed, Created, Deed, Deleted, Saw, Wrote}
use Rattle.mdv_volumes.proofs.Lists.{first_or_behind}
use Rattle.mdv_words.specs.Line.{Boot, Exec, IsLine, Line, Tab}
use Rattle.mdv_words.specs.declared.command.Alteration.{Alteration}
use Rattle.mdv_words.specs.declared.command.Command.{Command}
use Rattle.mdv_words.specs.declared.command.Command.TheVariants as command
use Rattle.mdv_theorem.specs.Exchanges.{Asks, Exchange, MayBeWritten, MayHaveBegun}
use Rattle.mdv_theorem.specs.Words.{MayTakeDatabase, MovesPlaces}
use Rattle.mdv_theorem.proofs.Telling.{is_fault, ok_is_none, one_number}

-- the line may have begun to move places
pub record MayMove (one : Exchange) : Type 0 where
  pub command : Command
  pub asks : Asks one command
  pub moves : MovesPlaces command
  pub begun : MayHaveBegun one

-- the line may have begun to change the volumes so
pub record MayAlter (change : PlanChange) (one : Exchange) : Type 0 where
  pub alteration : Alteration
  pub asks : Asks one (command.Alter alteration)
  pub alters : Alters alteration change
  pub begun : MayHaveBegun one

-- the line may have begun the deed: a database of the host's key, a change of its volumes or its places, its end, or blocks that are written
abbrev pub MayBegin : Key → Deed → Exchange → Type 0
MayBegin own (Created key) one = key ≡ own
MayBegin own (Changed key (OfPlan change)) one = MayAlter change one
MayBegin own (Changed key (AddPlaces slices count blocks)) one = MayMove one
MayBegin own (Changed key (AddListed number)) one = MayMove one
MayBegin own (Changed key (DropPlaces slices)) one = MayMove one
MayBegin own (Changed key FirstPlace) one = MayTakeDatabase one
MayBegin own (Deleted key) one = MayTakeDatabase one
MayBegin own (Wrote key volume at blocks) one = (place : ℕ) → place < length blocks → MayBeWritten volume (at + place) (slice_index_or blocks place []) one
MayBegin own (Saw key volume at blocks) one = Unit {0}

pub never_in : {X : Type 0} (x : X) → Contains [] x → ⊥
never_in x has = omega (arith, has.1)

-- a deed that is the one of these
pub the_only : {X : Type 0} (x y : X) → Contains (x ∷ []) y → x ≡ y
the_only x y has = elim (first_or_behind x y [] has) [ inl same ↦ same | inr none ↦ absurd (never_in y none) ]

module _ (host : Host) where
  -- a creation, or more places
  made_begins : (one : Exchange) (change : Change) (deed : Deed) → Contains (Created (key_of host) ∷ Changed (key_of host) change ∷ []) deed → MayBegin (key_of host) (Changed (key_of host) change) one → MayBegin (key_of host) deed one
  made_begins one change deed has may = elim (first_or_behind (Created (key_of host)) deed (Changed (key_of host) change ∷ []) has) [
    | inl here ↦ subst (λ (d : Deed). MayBegin (key_of host) d one) here refl
    | inr behind ↦ subst (λ (d : Deed). MayBegin (key_of host) d one) (the_only _ deed behind) may
  ]

  -- what a line by which places go may begin with force
  dropped_begins : (one : Exchange) (slices : List SliceName) (force : Bool) → Asks one (command.DropPlaces slices force) → MayHaveBegun one → (deed : Deed)
      → Contains (if force then Changed (key_of host) FirstPlace ∷ Deleted (key_of host) ∷ [] else []) deed → MayBegin (key_of host) deed one
  dropped_begins one slices false asks begun deed has = absurd (never_in deed has)
  dropped_begins one slices true asks begun deed has =
      let takes : MayTakeDatabase one = record { command = command.DropPlaces slices true; asks = asks; takes = refl; begun = begun } in
      elim (first_or_behind (Changed (key_of host) FirstPlace) deed (Deleted (key_of host) ∷ []) has) [
        | inl here ↦ subst (λ (d : Deed). MayBegin (key_of host) d one) here takes
        | inr behind ↦ subst (λ (d : Deed). MayBegin (key_of host) d one) (the_only _ deed behind) takes
      ]

  -- what a line by which volumes change may begin
  altered_begins : (one : Exchange) (alteration : Alteration) → Asks one (command.Alter alteration) → MayHaveBegun one → (asked : Option PlanChange) → change_of alteration ≡ asked → (deed : Deed) → Contains (deeds (change_asked host asked)) deed → MayBegin (key_of host) deed one
  altered_begins one alteration asks begun None is deed has = absurd (never_in deed has)
  altered_begins one alteration asks begun (Some change) is deed has =
      subst (λ (d : Deed). MayBegin (key_of host) d one) (the_only _ deed has) (record { alteration = alteration; asks = asks; alters = is; begun = begun })

  -- what a line asks it may have begun, where its reply doesn't say otherwise
  spelled_begins : (one : Exchange) (spelled : Line) → IsLine one.text spelled → MayHaveBegun one → (deed : Deed) → Contains (deeds (asked_by_line host spelled)) deed → MayBegin (key_of host) deed one
  spelled_begins one Boot is begun deed has = absurd (never_in deed has)
  spelled_begins one (Tab lines) is begun deed has = absurd (never_in deed has)
  spelled_begins one (Exec (command.AddPlaces slices force count blocks)) is begun deed has =
      made_begins one _ deed has (record { command = command.AddPlaces slices force count blocks; asks = is; moves = tt; begun = begun })
  spelled_begins one (Exec (command.AddListed number force)) is begun deed has =
      made_begins one _ deed has (record { command = command.AddListed number force; asks = is; moves = tt; begun = begun })
  spelled_begins one (Exec (command.DropPlaces slices force)) is begun deed has = elim (first_or_behind (Changed (key_of host) (DropPlaces slices)) deed (if force then Changed (key_of host) FirstPlace ∷ Deleted (key_of host) ∷ [] else []) has) [
    | inl here ↦ subst (λ (d : Deed). MayBegin (key_of host) d one) here (record { command = command.DropPlaces slices force; asks = is; moves = tt; begun = begun })
    | inr behind ↦ dropped_begins one slices force is begun deed behind
  ]
  spelled_begins one (Exec (command.Alter alteration)) is begun deed has = altered_begins one alteration is begun (change_of alteration) refl deed has
  spelled_begins one (Exec (command.Read volume at count)) is begun deed has = absurd (never_in deed has)
  spelled_begins one (Exec (command.Write volume at what)) is begun deed has =
      subst (λ (d : Deed). MayBegin (key_of host) d one) (the_only _ deed has)
      (λ place within. record { writes = record { at = at; what = what; asks = is; place = place; within = within; numbered = refl; value = refl }; begun = begun })
  spelled_begins one (Exec (command.Print names)) is begun deed has = absurd (never_in deed has)

  words_begin : (one : Exchange) (ask : Ask) → AsksWords host one.text ask → MayHaveBegun one → (deed : Deed) → Contains (deeds ask) deed → MayBegin (key_of host) deed one
  words_begin one ask (inl none) begun deed has = absurd (never_in deed (subst (λ (a : Ask). Contains (deeds a) deed) none.1 has))
  words_begin one ask (inr is) begun deed has = spelled_begins one is.0 is.1 begun deed (subst (λ (a : Ask). Contains (deeds a) deed) is.2 has)

  -- so it is of one that asks nothing, as far as is known
  pub begins_asked : (one : Exchange) (ask : Ask) → AsksWords host one.text ask ⊎ (ask ≡ Nothing) → MayHaveBegun one → (deed : Deed) → Contains (deeds ask) deed → MayBegin (key_of host) deed one
  begins_asked one ask (inl asks) begun deed has = words_begin one ask asks begun deed has
  begins_asked one ask (inr none) begun deed has = absurd (never_in deed (subst (λ (a : Ask). Contains (deeds a) deed) none has))

-- a reply with which something was begun
pub record Lets (ask : Ask) (reply : List ℕ) (deed : Deed) : Type 0 where
  pub begun : (refusal : Refusal) → reply ≡ refusal_line refusal → refusal ≡ IoFault
  pub asked : Contains (deeds ask) deed

ok_lets : (reply : List ℕ) → reply ≡ ok_line → (refusal : Refusal) → reply ≡ refusal_line refusal → refusal ≡ IoFault
ok_lets reply ok refusal is = absurd (ok_is_none refusal (sym ok ∙ is))

fault_lets : (reply : List ℕ) → reply ≡ refusal_line IoFault → (refusal : Refusal) → reply ≡ refusal_line refusal → refusal ≡ IoFault
fault_lets reply fault refusal is = is_fault refusal (one_number refusal IoFault (sym is ∙ fault))

pub lets : (ask : Ask) (reply : List ℕ) (deed : Deed) → Contains (issuable ask reply) deed → Lets ask reply deed
lets ask reply deed has = by (bytes_eq reply ok_line) (bytes_eq reply (refusal_line IoFault)) refl refl has where
  by : (ok fault : Bool) → bytes_eq reply ok_line ≡ ok → bytes_eq reply (refusal_line IoFault) ≡ fault → Contains (cond (ok || fault) (deeds ask) []) deed → Lets ask reply deed
  by true fault is other has = record { begun = ok_lets reply ((bytes_eq-Decides reply ok_line).0 is); asked = has }
  by false true other is has = record { begun = fault_lets reply ((bytes_eq-Decides reply (refusal_line IoFault)).0 is); asked = has }
  by false false other is has = absurd (never_in deed has)
