-- A database that a line showed stays: no line of the host behind it is told that there is none, nor one that adds replicas that it needs force to make one.
use Rattle.std.proofs.Common.{◌≡◌, ◌==◌, ℕ, Bool, true, false, not, ◌&&◌, ◌+◌, List, [], ◌++◌, Option, Some, None, All, refl, sym, ap, subst, arith, ◌∷◌, ◌*◌, ◌||◌, length}
use Rattle.std.proofs.lemmas.List.Elements.{All-append, All-cons, All-nil}
use Rattle.std.specs.List.{list_any}
use Rattle.std.specs.Option.{is_some}
use Rattle.std.specs.Prelude.{nat_lt}
use Rattle.mdv_base.specs.Order.{first_refusal, order, where_so}
use Rattle.mdv_base.specs.Refusal.{number_of}
use Rattle.mdv_base.specs.declared.refusal.Refusal.TheVariants.{NeedForce, NoDatabase, NoSuchPool, ReplicaFull, TooMany, TooSmall, WrongState, BadLine}
use Rattle.mdv_base.specs.declared.state_word.StateWord.TheVariants.{Down}
use Rattle.mdv_base.proofs.Order.{first_holds}
use Rattle.mdv_words.specs.Listed.{as_listed}
use Rattle.mdv_engine_law.specs.Below.{Place, StateWord}
use Rattle.mdv_engine_law.specs.Places.{are_all, bytes_with, list_more, list_of, room_with}
use Rattle.mdv_engine_law.specs.Commands.{case_of}
use Rattle.mdv_engine_law.specs.Refusals.{Case, held_of_alteration, held_of_blocks, held_of_creation, held_of_print, held_of_transfer, held_past, held_of_drop, held_of_less, held_of_lists, held_of_others, in_state, is_plain, rest_of, state_of_less, names_no_volume, names_pool, refusal_of, held_of_replicas, is_doubled, is_missing, is_short, is_taken, places_open}
use Rattle.mdv_engine_law.specs.Replies.{refusal_line, text_of}
use Rattle.mdv_base.specs.declared.name.Named.{Named}
use Rattle.mdv_name.specs.SliceIndex.{slice_at}
use Rattle.mdv_run_law.specs.Below.{Command, Entry, AddListed, AddPlaces, Alter, DropPlaces, Replicas, listed_by, meant, NoSuchSlice, NoSuchVolume, OutOfRange, Print, Read, Refusal, SliceInUse, SliceName, VolId, Write, WrongKind}
use Rattle.mdv_run_law.specs.Lives.{host_of}
use Rattle.mdv_engine_law.specs.Altering.{change_of}
use Rattle.mdv_map.specs.Maps.{Map}
use Rattle.mdv_volumes.specs.Tables.{map_of}
use Rattle.mdv_words.specs.Line.{blocks_of}
use Rattle.mdv_words.specs.declared.command.Alteration.{Alteration}
use Rattle.mdv_theorem.specs.Exchanges.{Asks, Exchange}
use Rattle.mdv_theorem.specs.Observed.{DatabasesStay, HaveAnswered}
use Rattle.mdv_theorem.specs.Words.{HasDatabase, MakesDatabase}
use Rattle.mdv_theorem.proofs.Aside.{alteration_all, commanded, told_as, told_some, where_all}
use Rattle.mdv_theorem.proofs.Enduring.{database_open}
use Rattle.mdv_theorem.proofs.Refused.{replicas_all}
use Rattle.mdv_theorem.proofs.Starting.{starts}
use Rattle.mdv_theorem.proofs.Steps.{reached_from, told_once}
use Rattle.mdv_store.specs.Opened.{Opened}

-- the refusal's number isn't that
abbrev IsOther : ℕ → Refusal → Type 0
IsOther n r = number_of r ≡ n → ⊥

-- NoDatabase's, NeedForce's and WrongState's
abbrev is_of_none : ℕ → Bool
is_of_none n = n == 2 || (n == 3 || n == 13)

-- Where a database is open more replicas are refused neither for want of one nor for want of force, nor because none may be made.
module _ (n : ℕ) (its : is_of_none n ≡ true) where
  away : (r : Refusal) → is_of_none (number_of r) ≡ false → IsOther n r
  away r none is = (let same : is_of_none (number_of r) ≡ is_of_none n = ap is_of_none is in cc (its, none, same))

  replicas_other : (gone plain down many unforced used small : Bool) → down ≡ false → unforced ≡ false
      → All (IsOther n) (where_so gone NoSuchSlice ++ (where_so plain WrongKind ++ (where_so down (WrongState Down) ++ (where_so many TooMany ++ (where_so unforced NeedForce ++ (where_so used SliceInUse ++ where_so small TooSmall))))))
  replicas_other gone plain down many unforced used small calm forced =
      replicas_all (IsOther n) gone plain down many unforced used small (away NoSuchSlice refl) (away WrongKind refl) (subst (λ (b : Bool). All (IsOther n) (where_so b (WrongState Down))) (sym calm) (All-nil (IsOther n))) (away TooMany refl)
      (subst (λ (b : Bool). All (IsOther n) (where_so b NeedForce)) (sym forced) (All-nil (IsOther n))) (away SliceInUse refl) (away TooSmall refl)

  lists_other : (o : Opened) (list : List Place) → All (IsOther n) (held_of_lists o list)
  lists_other o list = where_all (IsOther n) (nat_lt (room_with o list) (bytes_with o list)) (ReplicaFull (bytes_with o list) (room_with o list)) (away (ReplicaFull (bytes_with o list) (room_with o list)) refl)

  others_other : (opened : Option Opened) (slices : List SliceName) (count blocks : ℕ) → All (IsOther n) (held_of_others opened slices count blocks)
  others_other None slices count blocks = All-nil (IsOther n)
  others_other (Some o) slices count blocks = lists_other o (list_more slices count blocks (list_of o))

  module _ (case : Case) (o : Opened) (opened : case.memory.opened ≡ Some o) where
    creation_other : (slices : List SliceName) (force : Bool) (count blocks : ℕ) → All (IsOther n) (held_of_creation case slices force count blocks)
    creation_other slices force count blocks = All-append (IsOther n) (held_of_replicas case slices force count blocks) (held_of_others case.memory.opened slices count blocks)
        (replicas_other (list_any (is_missing case.host) slices) (list_any (λ slice. is_plain (slice_at case.host.drives.slices slice)) slices) (not (is_some case.memory.opened) && not case.memory.clean)
        (nat_lt 50 (length (places_open case.memory.opened) + length slices * count)) (not (is_some case.memory.opened) && not force) (list_any (is_taken case) slices || is_doubled slices) (list_any (is_short case.host count blocks) slices)
        (ap (λ (p : Option Opened). not (is_some p) && not case.memory.clean) opened) (ap (λ (p : Option Opened). not (is_some p) && not force) opened)) (others_other case.memory.opened slices count blocks)

    more_refused : (slices : List SliceName) (force : Bool) (count blocks : ℕ) (r : Refusal) → refusal_of case (AddPlaces slices force count blocks) ≡ Some r → IsOther n r
    more_refused slices force count blocks r is = first_holds (IsOther n) order (held_of_creation case slices force count blocks) r (creation_other slices force count blocks) is

    listed_refused : (number : ℕ) (force : Bool) (r : Refusal) → refusal_of case (AddListed number force) ≡ Some r → IsOther n r
    listed_refused number force r is = first_holds (IsOther n) order (BadLine ∷ []) r (All-cons (IsOther n) BadLine [] (away BadLine refl) (All-nil (IsOther n))) is

    said_refused : (number : ℕ) (force : Bool) (said : Option Replicas) (r : Refusal) → refusal_of case (as_listed number force said) ≡ Some r → IsOther n r
    said_refused number force (Some its) r is = more_refused its.slices force its.count its.blocks r is
    said_refused number force None r is = listed_refused number force r is

    makes_refused : (entries : List Entry) (command : Command) → MakesDatabase command → (r : Refusal) → refusal_of case (meant entries command) ≡ Some r → IsOther n r
    makes_refused entries (AddPlaces slices force count blocks) makes r is = more_refused slices force count blocks r is
    makes_refused entries (AddListed number force) makes r is = said_refused number force (listed_by entries number) r is
    makes_refused entries (DropPlaces slices force) makes r is = absurd makes
    makes_refused entries (Alter alteration) makes r is = absurd makes
    makes_refused entries (Read volume at count) makes r is = absurd makes
    makes_refused entries (Write volume at what) makes r is = absurd makes
    makes_refused entries (Print names) makes r is = absurd makes

-- that number isn't NoDatabase's
abbrev IsElseNumber : ℕ → Type 0
IsElseNumber n = n ≡ 2 → ⊥

abbrev IsElse : Refusal → Type 0
IsElse r = IsElseNumber (number_of r)

lists_else : (o : Opened) (list : List Place) → All IsElse (held_of_lists o list)
lists_else o list = lists_other 2 refl o list

-- and of places that go
state_else : (state : Option StateWord) → All IsElse (in_state state)
state_else None = All-nil IsElse
state_else (Some word) = All-cons IsElse (WrongState word) [] (omega arith) (All-nil IsElse)

less_else : (gone plain unforced : Bool) (state : Option StateWord) → All IsElse (where_so gone NoSuchSlice ++ (where_so plain WrongKind ++ (in_state state ++ where_so unforced NeedForce)))
less_else gone plain unforced state =
    let last = where_so unforced NeedForce in
    All-append IsElse (where_so gone NoSuchSlice) (where_so plain WrongKind ++ (in_state state ++ last)) (where_all IsElse gone NoSuchSlice (omega arith))
    (All-append IsElse (where_so plain WrongKind) (in_state state ++ last) (where_all IsElse plain WrongKind (omega arith)) (All-append IsElse (in_state state) last (state_else state) (where_all IsElse unforced NeedForce (omega arith))))

drop_else : (case : Case) (o : Opened) (slices : List SliceName) (force : Bool) → All IsElse (held_of_drop case (Some o) slices force)
drop_else case o slices force = (All-append IsElse (held_of_less case o slices force) (held_of_lists o (rest_of o slices))
    (less_else (list_any (is_missing case.host) slices) (list_any (λ slice. is_plain (slice_at case.host.drives.slices slice)) slices) (are_all o slices && not force) (state_of_less case o slices))
    (lists_else o (rest_of o slices)))

past_else : (found : Option Map) (end : ℕ) → All IsElse (held_past found end)
past_else None end = All-cons IsElse NoSuchVolume [] (omega arith) (All-nil IsElse)
past_else (Some v) end = where_all IsElse (nat_lt v.blocks end) OutOfRange (omega arith)

-- what an entry says is no change of volumes
meant_alters : (entries : List Entry) (command : Command) (alteration : Alteration) → meant entries command ≡ Alter alteration → command ≡ Alter alteration
meant_alters entries (AddListed number force) alteration same = absurd (by (listed_by entries number) same) where
  by : (said : Option Replicas) → as_listed number force said ≡ Alter alteration → ⊥
  by None is = cc is
  by (Some r) is = cc is
meant_alters entries (AddPlaces slices force count blocks) alteration same = same
meant_alters entries (DropPlaces slices force) alteration same = same
meant_alters entries (Alter other) alteration same = same
meant_alters entries (Read volume at count) alteration same = same
meant_alters entries (Write volume at what) alteration same = same
meant_alters entries (Print names) alteration same = same

-- and so is each command where a database is open
module _ (case : Case) (o : Opened) (opened : case.memory.opened ≡ Some o) where
  transfer_else : (volume : VolId) (at count : ℕ) → All IsElse (held_of_transfer case.host (Some o) volume at count)
  transfer_else volume at count =
      All-append IsElse (held_of_blocks case.host (Some o) volume (at + count)) (where_so (nat_lt 1024 count) TooMany) (past_else (map_of case.host.drives o.table volume) (at + count)) (where_all IsElse (nat_lt 1024 count) TooMany (omega arith))

  transfer_refused : (volume : VolId) (at count : ℕ) (r : Refusal) → first_refusal (held_of_transfer case.host case.memory.opened volume at count) ≡ Some r → IsElse r
  transfer_refused volume at count r is =
      first_holds IsElse order (held_of_transfer case.host case.memory.opened volume at count) r (subst (λ (p : Option Opened). All IsElse (held_of_transfer case.host p volume at count)) (sym opened) (transfer_else volume at count)) is

  print_else : (names : List Named) → All IsElse (held_of_print (Some o) names)
  print_else names =
      let missing = list_any (names_no_volume o.table.plan) names in
      let pools = list_any names_pool names in
      All-append IsElse (where_so missing NoSuchVolume) (where_so pools NoSuchPool) (where_all IsElse missing NoSuchVolume (omega arith)) (where_all IsElse pools NoSuchPool (omega arith))

  refused_else : (one : Exchange) (command : Command) → ((alteration : Alteration) → command ≡ Alter alteration → Asks one (Alter alteration)) → (r : Refusal) → refusal_of case command ≡ Some r → IsElse r
  refused_else one (AddPlaces slices force count blocks) asks r is = more_refused 2 refl case o opened slices force count blocks r is
  refused_else one (AddListed number force) asks r is = listed_refused 2 refl case o opened number force r is
  refused_else one (DropPlaces slices force) asks r is = first_holds IsElse order (held_of_drop case case.memory.opened slices force) r (subst (λ (p : Option Opened). All IsElse (held_of_drop case p slices force)) (sym opened) (drop_else case o slices force)) is
  refused_else one (Alter alteration) asks r is =
      first_holds IsElse order (held_of_alteration case.host case.memory.opened (change_of alteration)) r
      (subst (λ (p : Option Opened). All IsElse (held_of_alteration case.host p (change_of alteration))) (sym opened)
      (alteration_all IsElse (omega arith) (λ bytes room. omega arith) case.host o one alteration (asks alteration refl) (λ its cause holds. told_some its cause))) is
  refused_else one (Read volume at count) asks r is = transfer_refused volume at count r is
  refused_else one (Write volume at what) asks r is = transfer_refused volume at (length (blocks_of what)) r is
  refused_else one (Print names) asks r is = first_holds IsElse order (held_of_print case.memory.opened names) r (subst (λ (p : Option Opened). All IsElse (held_of_print p names)) (sym opened) (print_else names)) is

-- nor NeedForce's, nor WrongState's
abbrev forced_number : ℕ → Type 0
forced_number n = n ≡ 3 → ⊥

abbrev stated_number : ℕ → Type 0
stated_number n = n ≡ 13 → ⊥

pub databases_stay : DatabasesStay
databases_stay drives name before script of_table run one earlier command answered enough has asks =
    let sound = run.life.fair in
    let calm = subst (HaveAnswered run) answered.behind enough in
    let shown = subst HasDatabase answered.behind has in
    let starts_so = starts drives name before script of_table run in
    let its_host = host_of drives name run.fresh in (
      λ told.
          let at = reached_from run starts_so.of answered.here answered.later one (refusal_line NoDatabase) answered.is told in
          let there = database_open drives name before script sound of_table run starts_so answered.here one at calm shown in
          let other : IsElse NoDatabase = told_as IsElseNumber (omega arith) (omega arith) at.calls its_host at.kept at.next command (refused_else (case_of its_host at.kept) there.0 there.1 one (meant at.kept.memory.entries command)
          (λ alteration same. subst (Asks one) (meant_alters at.kept.memory.entries command alteration same) asks)) at.answer at.said NoDatabase
          (told_once one (text_of at.answer) (refusal_line NoDatabase) at.told told) (commanded at.calls its_host at.kept at.next one.text command at.answer asks at.comes) in
          other refl,
      λ makes told.
          let at = reached_from run starts_so.of answered.here answered.later one (refusal_line NeedForce) answered.is told in
          let there = database_open drives name before script sound of_table run starts_so answered.here one at calm shown in
          let other : IsOther 3 NeedForce = told_as forced_number (omega arith) (omega arith) at.calls its_host at.kept at.next command (makes_refused 3 refl (case_of its_host at.kept) there.0 there.1 at.kept.memory.entries command makes)
          at.answer at.said NeedForce (told_once one (text_of at.answer) (refusal_line NeedForce) at.told told) (commanded at.calls its_host at.kept at.next one.text command at.answer asks at.comes) in
          other refl,
      λ makes word told.
          let at = reached_from run starts_so.of answered.here answered.later one (refusal_line (WrongState word)) answered.is told in
          let there = database_open drives name before script sound of_table run starts_so answered.here one at calm shown in
          let other : IsOther 13 (WrongState word) = told_as stated_number (omega arith) (omega arith) at.calls its_host at.kept at.next command (makes_refused 13 refl (case_of its_host at.kept) there.0 there.1 at.kept.memory.entries command makes)
          at.answer at.said (WrongState word) (told_once one (text_of at.answer) (refusal_line (WrongState word)) at.told told) (commanded at.calls its_host at.kept at.next one.text command at.answer asks at.comes) in
          other refl,
    )
