-- What was told of a key's database since it was last created: what was told before is struck, which nothing is where no end of it began.
use Rattle.std.proofs.Common.{◌≡◌, ◌⊎◌, inl, inr, true, false, List, [], ◌∷◌, ◌++◌, map, reverse, Some, None, Contains, refl, sym, ◌∙◌, ap, subst, append_assoc, arith}
use Rattle.std.proofs.lemmas.List.{append-nil}
use Rattle.std.proofs.lemmas.List.Elements.{Contains-append_cases, Contains-append_left, Contains-append_right}
use Rattle.mdv_shelf.proofs.Blocks.{both_ways}
use Rattle.mdv_databases.proofs.Lists.{key_is, key_itself}
use Rattle.mdv_run_law.specs.Below.{Change, Changed, Created, Deleted, Event, Geometry, History, Identity, IsCourse, Key, Log, MayHappen, VolId, Wrote, empty_log, history_after, history_after_all, is_firm, issued_by, log_of, new_history, same_key, told_by}
use Rattle.mdv_store_law.specs.Log as log
use Rattle.mdv_store_law.specs.Log.{changes_of}
use Rattle.mdv_store_law.proofs.Fates.{lives_there, stays_alive_all}
use Rattle.mdv_store_law.proofs.Logs.{empty_is_log, is_log_after_all, told_acknowledges, told_firm}
use Rattle.mdv_store_law.proofs.Machine.{all_more}
use Rattle.mdv_store_law.proofs.Orders.{changes_more, told_since}
use Rattle.mdv_volumes.specs.Happening.{IsLater, begins, begun_at, begun_of, tells}
use Rattle.mdv_volumes.specs.History.{Acknowledges, Boots, Crashes, Creation, Deletes, OfDatabase, OfVolume, Reads, Shows, Stops, Unsettles}
use Rattle.mdv_volumes.specs.HistoryLaws.{AreLater, KeepDatabase, database_deeds, log_events_at, log_events_of}
use Rattle.mdv_volumes.proofs.Ending.{keep_front, none_begins}
use Rattle.mdv_volumes.proofs.Keys.{databases_live}
use Rattle.mdv_volumes.proofs.Lists.{all_both, contains_first, course_front, course_rest, first_or_behind}
use Rattle.mdv_volumes.specs.Events.{Answers, Begins, Flushes, Issues, VolumeEvent, Woke}
use Rattle.mdv_volumes.specs.Events as lives
use Rattle.mdv_run_law.specs.Lives.{IsSinceCreation, changes_in}

none_in : {X : Type 0} (x : X) → Contains [] x → ⊥
none_in x has = omega (arith, has.1)

only_one : {X : Type 0} (x y : X) → (x ≡ y → ⊥) → Contains (x ∷ []) y → ⊥
only_one x y differ has = elim (first_or_behind x y [] has) [ inl same ↦ differ same | inr none ↦ none_in y none ]

module _ (key : Key) where
  -- where no creation of the key begins, its log issues none
  own_later : (e : log.Event) → (Contains (begun_at key e) (Created key) → ⊥) → AreLater (e ∷ [])
  own_later (log.Issued identity) none = absurd (none (contains_first (Created key) []))
  own_later (log.Writing mark asked before table) none = (tt, tt)
  own_later log.Written none = (tt, tt)
  own_later (log.Told which before) none = (tt, tt)
  own_later (log.Placing places) none = (tt, tt)
  own_later log.Clearing none = (tt, tt)
  own_later log.Gone none = (tt, tt)

  one_later : (e : Event) → (Contains (begins e) (Created key) → ⊥) → AreLater (log_events_at key e)
  one_later (Creation other identity) none = elim (both_ways (same_key key other)) [
    | inl does ↦ absurd (none (subst (λ (k : Key). Contains (Created k ∷ []) (Created key)) (key_is key other does) (contains_first (Created key) [])))
    | inr never ↦ rw never tt
  ]
  one_later (OfDatabase other identity e) none = elim (both_ways (same_key key other)) [
    | inl does ↦ rw does (own_later e (subst (λ (k : Key). Contains (begun_at k e) (Created key) → ⊥) (sym (key_is key other does)) none))
    | inr never ↦ rw never tt
  ]
  one_later (OfVolume other volume e) none = tt
  one_later (Reads other volume at blocks) none = tt
  one_later (Acknowledges place other volume at blocks) none = tt
  one_later (Shows place other volume at blocks) none = tt
  one_later (Deletes place other) none = tt
  one_later (Boots other up) none = tt
  one_later (Unsettles other drive) none = tt
  one_later Stops none = tt
  one_later Crashes none = tt

  pub later_all : (es : List Event) → (Contains (issued_by es) (Created key) → ⊥) → AreLater (log_events_of key es)
  later_all [] none = tt
  later_all (e ∷ es) none =
      all_both IsLater (log_events_at key e) (log_events_of key es) (one_later e (λ has. none (Contains-append_left (begins e) (issued_by es) (Created key) has)))
      (later_all es (λ has. none (Contains-append_right (begins e) (issued_by es) (Created key) has)))

  -- an event begins a creation of the key, or none
  volume_creates : (other : Key) (volume : VolId) (e : VolumeEvent) → Contains (begun_of other volume e) (Created key) → ⊥
  volume_creates other volume (Issues at blocks) = only_one (Wrote other volume at blocks) (Created key) (λ same. absurd (cc (same)))
  volume_creates other volume (Answers at blocks) = none_in (Created key)
  volume_creates other volume (Flushes at count) = none_in (Created key)
  volume_creates other volume (Begins from logs) = none_in (Created key)
  volume_creates other volume lives.Crashes = none_in (Created key)
  volume_creates other volume (Woke count content) = none_in (Created key)

  log_creates : (other : Key) (e : log.Event) → IsLater e → Contains (begun_at other e) (Created key) → ⊥
  log_creates other (log.Issued identity) later = absurd later
  log_creates other (log.Writing mark None before table) later = none_in (Created key)
  log_creates other (log.Writing mark (Some change) before table) later = only_one (Changed other change) (Created key) (λ same. absurd (cc (same)))
  log_creates other log.Written later = none_in (Created key)
  log_creates other (log.Told which before) later = none_in (Created key)
  log_creates other (log.Placing places) later = none_in (Created key)
  log_creates other log.Clearing later = only_one (Deleted other) (Created key) (λ same. absurd (cc (same)))
  log_creates other log.Gone later = none_in (Created key)

  creates : (g : Geometry) (h : History) (e : Event) → MayHappen g h e → ((identity : Identity) × (e ≡ Creation key identity)) ⊎ (Contains (begins e) (Created key) → ⊥)
  creates g h (Creation other identity) may = elim (both_ways (same_key key other)) [
    | inl does ↦ inl (identity, ap (λ (k : Key). Creation k identity) (sym (key_is key other does)))
    | inr never ↦ inr (only_one (Created other) (Created key) (λ same. (let is : other ≡ key = cc (same) in let itself = subst (λ (k : Key). same_key key k ≡ true) (sym is) (key_itself key) in cc (itself, never))))
  ]
  creates g h (OfDatabase other identity e) may = inr (log_creates other e may.later)
  creates g h (OfVolume other volume e) may = inr (volume_creates other volume e)
  creates g h (Reads other volume at blocks) may = inr (none_in (Created key))
  creates g h (Acknowledges place other volume at blocks) may = inr (none_in (Created key))
  creates g h (Shows place other volume at blocks) may = inr (none_in (Created key))
  creates g h (Deletes place other) may = inr (none_in (Created key))
  creates g h (Boots other up) may = inr (none_in (Created key))
  creates g h (Unsettles other drive) may = inr (none_in (Created key))
  creates g h Stops may = inr (none_in (Created key))
  creates g h Crashes may = inr (none_in (Created key))

  -- the events up to the last creation, and those behind it
  record Split (es : List Event) : Type 0 where
    first : List Event
    since : List Event
    parts : es ≡ first ++ since
    created : (first ≡ []) ⊎ ((before : List Event) × (identity : Identity) × (first ≡ before ++ Creation key identity ∷ []))
    none : Contains (issued_by since) (Created key) → ⊥

  none_since : (es : List Event) (rest : Split es) → rest.first ≡ [] → Contains (issued_by es) (Created key) → ⊥
  none_since es rest nothing = subst (λ (l : List Event). Contains (issued_by l) (Created key) → ⊥) (sym (rest.parts ∙ ap (λ (l : List Event). l ++ rest.since) nothing)) rest.none

  split_more : (g : Geometry) (h : History) (e : Event) (es : List Event) → MayHappen g h e → Split es → Split (e ∷ es)
  split_more g h e es may rest = elim rest.created [
    | inl nothing ↦ elim (creates g h e may) [
      | inl own ↦ record { first = e ∷ []; since = es; parts = refl; created = inr ([], own.0, ap (λ (x : Event). x ∷ []) own.1); none = none_since es rest nothing }
      | inr never ↦ record {
        first = [];
        since = e ∷ es;
        parts = refl;
        created = inl refl;
        none = λ has. elim (Contains-append_cases (begins e) (issued_by es) (Created key) has) [ inl here ↦ never here | inr behind ↦ none_since es rest nothing behind ];
      }
    ]
    | inr last ↦ record {
      first = e ∷ rest.first;
      since = rest.since;
      parts = ap (λ (l : List Event). e ∷ l) rest.parts;
      created = inr (e ∷ last.0, last.1, ap (λ (l : List Event). e ∷ l) last.2);
      none = rest.none;
    }
  ]

  split : (g : Geometry) (h : History) (es : List Event) → IsCourse g h es → Split es
  split g h [] course = record { first = []; since = []; parts = refl; created = inl refl; none = none_in (Created key) }
  split g h (e ∷ es) course = split_more g h e es course.0 (split g (history_after h e) es course.1)

-- What a log's events tell, since the last creation was issued.
module _ (g : Geometry) where
  changes_all : (changes : List Change) → changes_of (map Some changes) ≡ changes
  changes_all [] = refl
  changes_all (change ∷ changes) = ap (λ (l : List Change). change ∷ l) (changes_all changes)

  changes_told : (which before : List Change) → changes_of (log.tells (log.Told which before)) ≡ reverse which
  changes_told [] before = refl
  changes_told (change ∷ which) before = changes_all (reverse (change ∷ which))

  since_later : (told : List Change) (es : List log.Event) → AreLater es → told_since g told es ≡ told ++ changes_of (log.told_by es)
  since_later told [] later = sym (append-nil told)
  since_later told (log.Issued identity ∷ es) later = absurd later.0
  since_later told (log.Writing mark asked before table ∷ es) later = since_later told es later.1
  since_later told (log.Written ∷ es) later = since_later told es later.1
  since_later told (log.Told which before ∷ es) later =
      let here : changes_of (log.tells (log.Told which before) ++ log.told_by es) ≡ reverse which ++ changes_of (log.told_by es) =
      changes_more (log.tells (log.Told which before)) (log.told_by es) ∙ ap (λ (l : List Change). l ++ changes_of (log.told_by es)) (changes_told which before) in
      since_later (told ++ reverse which) es later.1 ∙ append_assoc told (reverse which) (changes_of (log.told_by es)) ∙ ap (λ (l : List Change). told ++ l) (sym here)
  since_later told (log.Placing places ∷ es) later = since_later told es later.1
  since_later told (log.Clearing ∷ es) later = since_later told es later.1
  since_later told (log.Gone ∷ es) later = since_later told es later.1

  since_more : (told : List Change) (es fs : List log.Event) → told_since g told (es ++ fs) ≡ told_since g (told_since g told es) fs
  since_more told [] fs = refl
  since_more told (log.Issued identity ∷ es) fs = since_more [] es fs
  since_more told (log.Writing mark asked before table ∷ es) fs = since_more told es fs
  since_more told (log.Written ∷ es) fs = since_more told es fs
  since_more told (log.Told which before ∷ es) fs = since_more (told ++ reverse which) es fs
  since_more told (log.Placing places ∷ es) fs = since_more told es fs
  since_more told (log.Clearing ∷ es) fs = since_more told es fs
  since_more told (log.Gone ∷ es) fs = since_more told es fs

none_told : {X : Type 0} (xs : List X) → ((xs ≡ [] → ⊥) → ⊥) → xs ≡ []
none_told [] never = refl
none_told (x ∷ xs) never = absurd (never (λ none. cc (none)))

-- A course from the start, and its events since the last creation of the key's database.
module _ (g : Geometry) (key : Key) (es : List Event) (course : IsCourse g new_history es) where
  abbrev parted : Split key es
  parted = split key g new_history es course

  its_creation : (identity : Identity) → log_events_at key (Creation key identity) ≡ log.Issued identity ∷ []
  its_creation identity = (let is = key_itself key in rw is refl)

  -- by which nothing is left that was told
  first_struck : told_since g [] (log_events_of key parted.first) ≡ []
  first_struck = elim parted.created [
    | inl none ↦ ap (λ (l : List Event). told_since g [] (log_events_of key l)) none
    | inr last ↦
        ap (λ (l : List Event). told_since g [] (log_events_of key l)) last.2 ∙ ap (told_since g []) (all_more (log_events_at key) last.0 (Creation key last.1 ∷ []))
        ∙ since_more g [] (log_events_of key last.0) (log_events_at key (Creation key last.1) ++ []) ∙ struck last.1 (told_since g [] (log_events_of key last.0))
  ] where
    struck : (identity : Identity) (told : List Change) → told_since g told (log_events_at key (Creation key identity) ++ []) ≡ []
    struck identity told = ap (λ (l : List log.Event). told_since g told (l ++ [])) (its_creation identity)

  -- before the creation nothing was told, where no end began
  module _ (before : List Event) (identity : Identity) (could : IsCourse g new_history (before ++ Creation key identity ∷ [])) (keep : KeepDatabase key before) where
    front : IsCourse g new_history before
    front = course_front history_after (MayHappen g) new_history before (Creation key identity ∷ []) could

    abbrev events : List log.Event
    events = log_events_of key before

    own : log_of (history_after_all new_history before).databases key ≡ log.log_after_all empty_log events
    own = databases_live.is key g new_history before front

    its_course : log.IsCourse g empty_log events
    its_course = databases_live.may key g new_history before front

    its_lives : (log.log_after_all empty_log events).fate ≡ log.Lives
    its_lives = stays_alive_all g empty_log events its_course (none_begins key before keep) refl

    loose : is_firm (log.log_after_all empty_log events) ≡ false
    loose = elim (course_rest history_after (MayHappen g) new_history before (Creation key identity ∷ []) could).0.free [
      | inl none ↦ subst (λ (l : Log). is_firm l ≡ false) own none
      | inr over ↦ absurd (lives_there (log.log_after_all empty_log events).fate its_lives (subst (λ (l : Log). l.fate ≡ log.Over) own over))
    ]

    nothing_told : log.told_by events ≡ []
    nothing_told = none_told (log.told_by events) (λ some.
        let told = told_acknowledges g empty_log events (empty_is_log g) its_course (none_begins key before keep) refl some in
        let firm = told_firm g (log.log_after_all empty_log events) told.0 (is_log_after_all g empty_log events (empty_is_log g) its_course) told.1 in
        cc (firm, loose))

  first_quiet : KeepDatabase key parted.first → database_deeds key (told_by parted.first) ≡ []
  first_quiet keep = elim parted.created [
    | inl none ↦ ap (λ (l : List Event). database_deeds key (told_by l)) none
    | inr last ↦
        let could : IsCourse g new_history (last.0 ++ Creation key last.1 ∷ []) = subst (IsCourse g new_history) last.2 (course_front history_after (MayHappen g) new_history parted.first parted.since (subst (IsCourse g new_history) parted.parts course)) in
        let keeps = keep_front key last.0 (Creation key last.1 ∷ []) (subst (KeepDatabase key) last.2 keep) in
        ap (λ (l : List Event). database_deeds key (told_by l)) last.2 ∙ ap (database_deeds key) (all_more tells last.0 (Creation key last.1 ∷ []) ∙ append-nil (told_by last.0))
        ∙ sym (databases_live.tells key last.0) ∙ nothing_told last.0 last.1 could keeps
  ]

  -- what its log has of what was told is what was told since
  told_there : told_since g [] (log_events_of key es) ≡ changes_in key (told_by parted.since)
  told_there =
      let later = later_all key parted.since parted.none in
      ap (λ (l : List Event). told_since g [] (log_events_of key l)) parted.parts ∙ ap (told_since g []) (all_more (log_events_at key) parted.first parted.since)
      ∙ since_more g [] (log_events_of key parted.first) (log_events_of key parted.since) ∙ ap (λ (told : List Change). told_since g told (log_events_of key parted.since)) first_struck
      ∙ since_later g [] (log_events_of key parted.since) later ∙ ap changes_of (databases_live.tells key parted.since)

  pub since_creation : (is : IsSinceCreation key es) × (told_since g [] (log_events_of key es) ≡ changes_in key (told_by is.since))
  since_creation = (record { first = parted.first; since = parted.since; parts = parted.parts; created = parted.created; none = parted.none; struck = first_quiet }, told_there)
