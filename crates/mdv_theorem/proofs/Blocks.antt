-- A write of an earlier run that was acknowledged: the block is there at the start, and has its value, or one that was issued later.
use Rattle.std.proofs.Common.{◌≡◌, ◌⊎◌, inl, inr, ⊎_elim, ℕ, ◌+◌, ◌-◌, ◌<◌, true, Option, List, [], ◌∷◌, ◌++◌, length, map, slice_index_or, Contains, sym, ◌∙◌, ap, subst, arith}
use Rattle.std.proofs.lemmas.List.Elements.{Contains-append_cases, Contains-append_left, Contains-append_right}
use Rattle.mdv_base.specs.declared.name.Key.{Key}
use Rattle.mdv_base.specs.declared.name.VolId.{VolId}
use Rattle.mdv_engine_law.specs.Line.{Ask, deeds}
use Rattle.mdv_engine_law.specs.declared.host.Host.{Host}
use Rattle.mdv_engine_law.specs.Replies.{issuable, ok_line}
use Rattle.mdv_map.specs.Logs.{is_among}
use Rattle.mdv_map.specs.Maps.{DriveBlock, Map, held, readings}
use Rattle.mdv_map.proofs.Copies.{among_at}
use Rattle.mdv_name.specs.declared.geometry.Geometry.{Geometry}
use Rattle.mdv_run_law.specs.Lives.{Ran, IsLife}
use Rattle.mdv_run_law.proofs.Deeds.{part_contains}
use Rattle.mdv_shelf.specs.Everywhere.{Image}
use Rattle.mdv_shelf.specs.Tale.{Among, Tale, last}
use Rattle.mdv_shelf.proofs.Blocks.{both_ways}
use Rattle.mdv_status.specs.Values.{significant}
use Rattle.mdv_store_law.specs.Log.{Version}
use Rattle.mdv_store_law.proofs.Machine.{all_more}
use Rattle.mdv_config.specs.Slices.{IsSound}
use Rattle.mdv_plan.specs.declared.table.Table.{Table}
use Rattle.mdv_volumes.specs.Databases.{is_volume, log_of}
use Rattle.mdv_volumes.specs.Events.{Answers, Begins, Flushes, Issues, VolumeEvent, Woke, issued_to}
use Rattle.mdv_volumes.specs.Events as lives
use Rattle.mdv_volumes.specs.Happening.{HasRange, IsNamed, MayBeFound, begins, begun_of, issued_by}
use Rattle.mdv_volumes.specs.History.{Acknowledges, Boots, Changed, Crashes, Created, Creation, Deed, Deleted, Deletes, Event, OfDatabase, OfVolume, Reads, Saw, Shows, Stops, Unsettles, Wrote, events_at, events_of, history_after_all}
use Rattle.mdv_store_law.specs.Changes.{OfPlan}
use Rattle.mdv_volumes.specs.HistoryLaws.{KeepDatabase, KeepVolume, new_history}
use Rattle.mdv_volumes.specs.LogLaws.{MayBe}
use Rattle.mdv_volumes.proofs.Databases.{volume_key, volume_number}
use Rattle.mdv_volumes.proofs.Found.{AreLasting, some_lasts}
use Rattle.mdv_volumes.proofs.Lists.{contains_first}
use Rattle.mdv_volumes.proofs.Made.{HasFront}
use Rattle.mdv_words.specs.Line.{blocks_of}
use Rattle.mdv_words.specs.declared.command.Command.TheVariants.{Write}
use Rattle.mdv_theorem.specs.Exchanges.{Exchange, IsAcknowledged, MayBeWritten, Writes, exchanges_by}
use Rattle.mdv_theorem.specs.Words.{IsOrWasWritten}
use Rattle.mdv_theorem.proofs.Found.{asked_at, deed_told, es, its, its_course, lined, ok_sated, range_found}
use Rattle.mdv_theorem.proofs.Ends.{TakeVolume, lined_keeps}
use Rattle.mdv_theorem.proofs.Lined.{AreLined, AreOfReply, AreReplied, IsLinedAt, host, lined_at, lined_begins}
use Rattle.mdv_theorem.proofs.Lines.{lets, the_only}
use Rattle.mdv_theorem.proofs.Places.{IsToldAt, at_among, may_at, told_at}
use Rattle.mdv_base.specs.declared.name.Key.TheVariants.{Local}

module _ (key : Key) (volume : VolId) (number : ℕ) (x : List ℕ) where
  -- one of these events issues blocks of the volume, and that value for this one
  record IsIssued (begun : List Deed) : Type 0 where
    at : ℕ
    blocks : List (List ℕ)
    deed : Contains begun (Wrote key volume at blocks)
    among : is_among at (length blocks) number ≡ true
    value : x ≡ slice_index_or blocks (number - at) []

  issued_more : (first more : List Deed) → IsIssued more → IsIssued (first ++ more)
  issued_more first more is = record { at = is.at; blocks = is.blocks; deed = Contains-append_right first more (Wrote key volume is.at is.blocks) is.deed; among = is.among; value = is.value }

  issued_front : (first more : List Deed) → IsIssued first → IsIssued (first ++ more)
  issued_front first more is = record { at = is.at; blocks = is.blocks; deed = Contains-append_left first more (Wrote key volume is.at is.blocks) is.deed; among = is.among; value = is.value }

  -- what is among two lists is among one
  among_both : (some more : List (List ℕ)) → Among (some ++ more) x → Among some x ⊎ Among more x
  among_both [] more is = inr is
  among_both (a ∷ some) more (inl same) = inl (inl same)
  among_both (a ∷ some) more (inr is) = ⊎_elim (λ here. inl (inr here)) (λ behind. inr behind) (among_both some more is)

  issue_of : (e : VolumeEvent) → Among (issued_to number (e ∷ [])) x → IsIssued (begun_of key volume e)
  issue_of (Issues at blocks) = elim (both_ways (is_among at (length blocks) number)) [
    | inl does ↦ rw does (λ is. record { at = at; blocks = blocks; deed = contains_first (Wrote key volume at blocks) []; among = does; value = ⊎_elim (λ same. same) (λ none. absurd none) is })
    | inr never ↦ rw never (λ none. absurd none)
  ]
  issue_of (Answers at blocks) = λ none. absurd none
  issue_of (Flushes at count) = λ none. absurd none
  issue_of (Begins from logs) = λ none. absurd none
  issue_of lives.Crashes = λ none. absurd none
  issue_of (Woke count contents) = λ none. absurd none

  volume_issue : (other : Key) (beside : VolId) (e : VolumeEvent) → Among (issued_to number (events_at key volume (OfVolume other beside e))) x → IsIssued (begun_of other beside e)
  volume_issue other beside e = elim (both_ways (is_volume key volume other beside)) [
    | inl does ↦ rw does (λ is. subst (λ (k : Key). IsIssued (begun_of k beside e)) (volume_key key volume other beside does) (subst (λ (v : VolId). IsIssued (begun_of key v e)) (volume_number key volume other beside does) (issue_of e is)))
    | inr never ↦ rw never (λ none. absurd none)
  ]

  step_issue : (e : Event) → Among (issued_to number (events_at key volume e)) x → IsIssued (begins e)
  step_issue (Creation other identity) is = absurd is
  step_issue (OfDatabase other identity e) is = absurd is
  step_issue (OfVolume other beside e) is = volume_issue other beside e is
  step_issue (Reads other beside at blocks) is = absurd is
  step_issue (Acknowledges place other beside at blocks) is = absurd is
  step_issue (Shows place other beside at blocks) is = absurd is
  step_issue (Deletes place other) is = absurd is
  step_issue (Boots other up) is = absurd is
  step_issue (Unsettles other drive) is = absurd is
  step_issue Stops is = absurd is
  step_issue Crashes is = absurd is

  -- a value that was issued for the block came by a write that was begun
  issued_deed : (es : List Event) → Among (issued_to number (events_of key volume es)) x → IsIssued (issued_by es)
  issued_deed [] is = absurd is
  issued_deed (e ∷ es) is =
      let here = events_at key volume e in
      let behind = events_of key volume es in
      elim (among_both (issued_to number here) (issued_to number behind) (subst (λ (l : List (List ℕ)). Among l x) (all_more (lives.issues_of number) here behind) is)) [
        | inl now ↦ issued_front (begins e) (issued_by es) (step_issue e now)
        | inr later ↦ issued_more (begins e) (issued_by es) (issued_deed es later)
      ]

  -- one of these blocks it is
  pub record IsOneOf (at : ℕ) (blocks : List (List ℕ)) : Type 0 where
    pub place : ℕ
    pub within : place < length blocks
    pub numbered : number ≡ at + place
    pub value : x ≡ slice_index_or blocks place []

  one_issue : (at : ℕ) (blocks : List (List ℕ)) → is_among at (length blocks) number ≡ true → x ≡ slice_index_or blocks (number - at) [] → IsOneOf at blocks
  one_issue at blocks among value =
      let is = among_at at (length blocks) number among in
      let numbered = is.is in
      let place : number - at ≡ is.index = omega (arith, numbered) in
      record { place = is.index; within = is.below; numbered = numbered; value = value ∙ ap (λ (i : ℕ). slice_index_or blocks i []) place }

-- from which block on a deed writes, and which blocks
abbrev written_at : Deed → ℕ × List (List ℕ)
written_at (Created other) = (0, [])
written_at (Changed other change) = (0, [])
written_at (Deleted other) = (0, [])
written_at (Wrote other volume at blocks) = (at, blocks)
written_at (Saw other volume at blocks) = (0, [])

module _ (drives : Geometry) (name : List ℕ) (made : Image) (before : List Ran) (t : Tale) (sound : IsSound drives) (of_table : Contains drives.hosts name) (life : IsLife drives made before t) where
  abbrev own : Host
  own = host drives name

  abbrev all : List Event
  all = es drives name made before t sound of_table life

  abbrev its_key : Key
  its_key = Local name

  module _ (first between : List Exchange) (write : Exchange) (volume : VolId) (number : ℕ) (old : List ℕ) (stood : exchanges_by name before ≡ first ++ write ∷ between) (acknowledged : IsAcknowledged volume number old write) where
    abbrev writes : Writes volume number old write
    writes = acknowledged.writes

    abbrev blocks : List (List ℕ)
    blocks = blocks_of writes.what

    abbrev deed : Deed
    deed = Wrote its_key volume writes.at blocks

    line : IsLinedAt drives name write between all
    line = lined_at drives name first write between all (subst (λ (l : List Exchange). AreLined drives name l all) stood (lined drives name made before t sound of_table life))

    replied : AreReplied drives name write.text ok_line line.own
    replied = subst (λ (r : Option (List ℕ)). AreOfReply drives name write.text r line.own) acknowledged.told line.of_line

    its_told : IsToldAt deed line.own
    its_told =
        let tells = deed_told drives name made before t sound of_table life write (Write volume writes.at writes.what) deed line.own (λ done acks. acks) writes.asks replied in
        told_at deed line.own tt (subst (λ (l : List Deed). Contains l deed) (sym tells) (contains_first deed []))

    -- where it was told, what came before, and behind
    abbrev event : Event
    event = Acknowledges its_told.place its_key volume writes.at blocks

    abbrev front : List Event
    front = line.first ++ its_told.at.first

    abbrev rest : List Event
    rest = its_told.at.later ++ line.later

    stands_so : all ≡ front ++ event ∷ rest
    stands_so = at_among event all line.first line.own line.later line.is its_told.at

    -- the volume was there with the blocks
    its_range : HasRange own.drives (history_after_all new_history front).databases its_key volume writes.at (length blocks)
    its_range = (may_at own.drives new_history event all front rest stands_so (its_course drives name made before t sound of_table life)).0.1

    abbrev its_map : Map
    its_map = its_range.map

    abbrev Lies : Table → Type 0
    Lies table = HasFront own.drives volume its_map table

    -- what its own line issued behind that is the same
    own_issue : (issue : Deed) → Contains (issued_by its_told.at.later) issue → deed ≡ issue
    own_issue issue has =
        let a = its_told.at.first in
        let b = its_told.at.later in
        let is : issued_by line.own ≡ issued_by a ++ issued_by b = ap issued_by its_told.at.is ∙ all_more begins a (event ∷ b) in
        let here : Contains (issued_by line.own) issue = subst (λ (l : List Deed). Contains l issue) (sym is) (Contains-append_right (issued_by a) (issued_by b) issue has) in
        let may = lets replied.ask ok_line issue (part_contains (issued_by line.own) (issuable replied.ask ok_line) issue replied.begins here) in
        let asked = asked_at drives name made before t sound of_table life write ok_line (Write volume writes.at writes.what) line.own writes.asks (ok_sated drives name made before t sound of_table life) replied in
        the_only deed issue (subst (λ (a : Ask). Contains (deeds a) issue) asked may.asked)

    -- what was issued behind it is that, or was issued by a line behind its own
    rest_issue : (issue : Deed) → Contains (issued_by rest) issue → (deed ≡ issue) ⊎ Contains (issued_by line.later) issue
    rest_issue issue has = elim (Contains-append_cases (issued_by its_told.at.later) (issued_by line.later) issue (subst (λ (l : List Deed). Contains l issue) (all_more begins its_told.at.later line.later) has)) [
      | inl own ↦ inl (own_issue issue own)
      | inr later ↦ inr later
    ]

    -- a line behind it may have taken the volume away, or no end of its database began, and no change by which it goes
    keep_or_takes : TakeVolume volume between ⊎ (KeepDatabase its_key rest × KeepVolume its_key volume rest)
    keep_or_takes = elim (lined_keeps drives name volume between line.later line.of_between) [
      | inl takes ↦ inl takes
      | inr (lives, stays) ↦ inr (
        λ has. elim (rest_issue (Deleted its_key) has) [ inl own ↦ absurd (cc own) | inr later ↦ lives later ],
        λ change has clears. elim (rest_issue (Changed its_key (OfPlan change)) has) [ inl own ↦ absurd (cc own) | inr later ↦ stays change later clears ],
      )
    ]

    later_value : (x : List ℕ) → IsIssued its_key volume number x (issued_by rest) → IsOrWasWritten volume number old between x
    later_value x is =
        let issue = Wrote its_key volume is.at is.blocks in
        elim (rest_issue issue is.deed) [
          | inl same ↦
              let parts : (writes.at, blocks) ≡ (is.at, is.blocks) = ap written_at same in
              let one = one_issue its_key volume number x is.at is.blocks is.among is.value in
              let numbered = one.numbered in
              let first : writes.at ≡ is.at = ap (λ (p : ℕ × List (List ℕ)). p.0) parts in
              let its_number = writes.numbered in
              let place : one.place ≡ writes.place = omega (arith, numbered, first, its_number) in
              let value : x ≡ old = one.value ∙ (λ i. slice_index_or ((sym parts) i).1 (place i) []) ∙ sym writes.value in
              inl (ap significant value)
          | inr later ↦
              let came = lined_begins drives name between line.later line.of_between issue later in
              let one = one_issue its_key volume number x is.at is.blocks is.among is.value in
              let new = slice_index_or is.blocks one.place [] in
              inr (inl (came.0, new, came.1, subst (λ (n : ℕ). MayBeWritten volume n new came.0) (sym one.numbered) (came.2 one.place one.within), ap significant one.value))
        ]

    -- where none did
    module _ (keep : KeepDatabase its_key rest) (stay : KeepVolume its_key volume rest) where
      its_tables : AreLasting own.drives Lies (log_of (history_after_all new_history all).databases its_key)
      its_tables = range_found drives name made before t sound of_table life front (event ∷ rest) volume writes.at (length blocks) stands_so its_range keep stay

      -- the values that its block may have
      log_value : (x : List ℕ) → MayBe ((history_after_all new_history all).volumes its_key volume) number x → IsOrWasWritten volume number old between x
      log_value x may =
          let lasts = (its drives name made before t sound of_table life).lasts front rest its_told.place its_key volume writes.at blocks stands_so keep stay in
          let so : MayBe ((history_after_all new_history (front ++ event ∷ rest)).volumes its_key volume) (writes.at + writes.place) x =
          subst (λ (l : List Event). MayBe ((history_after_all new_history l).volumes its_key volume) (writes.at + writes.place) x) stands_so (subst (λ (n : ℕ). MayBe ((history_after_all new_history all).volumes its_key volume) n x) writes.numbered may) in
          elim (lasts.lasts writes.place x writes.within so) [
            | inl same ↦ inl (ap significant (same ∙ sym writes.value))
            | inr later ↦ later_value x (issued_deed its_key volume number x rest (subst (λ (n : ℕ). Among (issued_to n (events_of its_key volume rest)) x) (sym writes.numbered) later))
          ]

      its_blocks : number < its_map.blocks
      its_blocks =
          let within = its_range.within in
          let below = writes.within in
          let numbered = writes.numbered in
          omega (arith, within, below, numbered)

      -- a table that a boot may find has it, with more blocks behind or none
      its_table : (version : Version) × MayBeFound (log_of (history_after_all new_history all).databases its_key).family version × Lies version.table
      its_table = some_lasts own.drives Lies (log_of (history_after_all new_history all).databases its_key) its_tables

      its_named : IsNamed own.drives (history_after_all new_history all).databases its_key volume its_table.2.0
      its_named = record { version = its_table.0; found = its_table.1; map = its_table.2.1 }

      read_value : (x : List ℕ) → Among (readings its_map (last t) number) x → IsOrWasWritten volume number old between x
      read_value x among =
          let w = its_table.2.0 in
          let front = its_table.2.2 in
          let more = front.blocks in
          let below = its_blocks in
          log_value x (inl ((its drives name made before t sound of_table life).reads volume w its_named number x (omega (arith, more, below))
          (subst (λ (ss : List DriveBlock). Among (map (held (last t)) ss) x) (sym (front.copies number its_blocks)) among)))

  -- An acknowledged write of an earlier run: each table that a boot may find has the volume with the block, which has the write's value, or one that a line behind it may have written; or one may have taken the volume away.
  pub record WriteLeft (between : List Exchange) (volume : VolId) (number : ℕ) (old : List ℕ) : Type 0 where
    pub map : Map
    pub lasts : AreLasting own.drives (λ table. HasFront own.drives volume map table) (log_of (history_after_all new_history all).databases its_key)
    pub within : number < map.blocks
    pub values : (x : List ℕ) → Among (readings map (last t) number) x → IsOrWasWritten volume number old between x

  pub write_left : (first between : List Exchange) (write : Exchange) (volume : VolId) (number : ℕ) (old : List ℕ) → exchanges_by name before ≡ first ++ write ∷ between → IsAcknowledged volume number old write → TakeVolume volume between ⊎ WriteLeft between volume number old
  write_left first between write volume number old stood acknowledged = elim (keep_or_takes first between write volume number old stood acknowledged) [
    | inl takes ↦ inl takes
    | inr (keep, stay) ↦ inr (record {
      map = its_map first between write volume number old stood acknowledged;
      lasts = its_tables first between write volume number old stood acknowledged keep stay;
      within = its_blocks first between write volume number old stood acknowledged keep stay;
      values = read_value first between write volume number old stood acknowledged keep stay;
    })
  ]
