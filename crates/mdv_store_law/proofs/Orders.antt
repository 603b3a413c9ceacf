-- In which order the changes of a log's tables were written, and told.
use Rattle.std.proofs.Common.{◌≡◌, ◌⊎◌, inl, inr, true, false, List, [], ◌∷◌, ◌++◌, map, reverse, refl, sym, ◌∙◌, ap, subst, append_assoc, Option, Some, None, Contains, arith}
use Rattle.std.proofs.lemmas.List.{append-nil, reverse-append}
use Rattle.mdv_store_law.specs.Below.{Identity, Geometry, Mark, Table}
use Rattle.mdv_store_law.specs.Changes.{Change}
use Rattle.mdv_store_law.specs.Log.{Version, Log, Event, Issued, Writing, Written, Told, Placing, Clearing, Gone, Lives, with_asked, answered, log_after, log_after_all, is_firm, IsFirst, IsNext, Extends, IsUntold, IsTellable, IsCourse, asks_of, begun_by, changes_of, tells, told_by, IsLog}
use Rattle.mdv_store_law.specs.Machine.{AreAll}
use Rattle.mdv_store_law.specs.Part.{IsPart}
use Rattle.mdv_store_law.proofs.Families.{contains_first, contains_behind, contains_cases, written_firm}
use Rattle.mdv_store_law.proofs.Fates.{BeginsNoEnd, lives_there, never_ends}
use Rattle.mdv_store_law.proofs.Logs.{is_log_after}
use Rattle.mdv_store_law.proofs.Parts.{part_itself, part_more}

pub changes_more : (some more : List (Option Change)) → changes_of (some ++ more) ≡ changes_of some ++ changes_of more
changes_more [] more = refl
changes_more (None ∷ some) more = changes_more some more
changes_more (Some change ∷ some) more = ap (λ (l : List Change). change ∷ l) (changes_more some more)

changes_asked : (asked : Option Change) → changes_of (asks_of asked) ≡ with_asked asked []
changes_asked None = refl
changes_asked (Some change) = refl

changes_all : (changes : List Change) → changes_of (map Some changes) ≡ changes
changes_all [] = refl
changes_all (change ∷ changes) = ap (λ (l : List Change). change ∷ l) (changes_all changes)

changes_told : (which before : List Change) → changes_of (tells (Told which before)) ≡ reverse which
changes_told [] before = refl
changes_told (change ∷ which) before = changes_all (reverse (change ∷ which))

-- the oldest first, one change more stands at the end
behind_all : (changes : List Change) (change : Change) → reverse (change ∷ changes) ≡ reverse changes ++ change ∷ []
behind_all changes change = reverse-append (change ∷ []) changes

pub oldest_extended : (longer shorter part : List Change) → Extends longer shorter → IsPart part (reverse shorter) → IsPart part (reverse longer)
oldest_extended longer shorter part extends is =
    let same : reverse longer ≡ reverse shorter ++ reverse extends.more = ap reverse extends.is ∙ reverse-append extends.more shorter in
    let ends : IsPart (part ++ []) (reverse shorter ++ reverse extends.more) = part_more part (reverse shorter) [] (reverse extends.more) is tt in
    subst (λ (l : List Change). IsPart part l) (sym same) (subst (λ (l : List Change). IsPart l (reverse shorter ++ reverse extends.more)) (append-nil part) ends)

-- the changes of each table were written in their order, each once
abbrev pub AreWritten : List Version → List Change → Type 0
AreWritten family written = (v : Version) → Contains family v → IsPart (reverse v.changes) written

written_behind : (family : List Version) (written more : List Change) → AreWritten family written → AreWritten family (written ++ more)
written_behind family written more are v has =
    subst (λ (l : List Change). IsPart l (written ++ more)) (append-nil (reverse v.changes)) (part_more (reverse v.changes) written [] more (are v has) tt)

written_answered : (family : List Version) (written : List Change) → AreWritten family written → AreWritten (answered family) written
written_answered [] written are v has = are v has
written_answered (v ∷ older) written are w has = elim (contains_cases (record v { is_written = true }) w older has) [
  | inl same ↦ subst (λ (x : Version). IsPart (reverse x.changes) written) same (are v (contains_first v older))
  | inr behind ↦ are w (contains_behind v w older behind)
]

module _ (g : Geometry) where
  -- those of the table that another comes from
  before_written : {issued : Option Identity} (family : List Version) (written : List Change) (asked : Option Change) (before : List Change) (table : Table) → AreWritten family written → IsFirst issued family asked before table ⊎ IsNext g family asked before table → IsPart (reverse before) written
  before_written family written asked before table are (inl first) = subst (λ (l : List Change). IsPart (reverse l) written) (sym first.unchanged) tt
  before_written family written asked before table are (inr next) = subst (λ (l : List Change). IsPart (reverse l) written) next.changes (are next.parent next.one_of)

  asked_written : (written : List Change) (asked : Option Change) (before : List Change) → IsPart (reverse before) written → IsPart (reverse (with_asked asked before)) (written ++ with_asked asked [])
  asked_written written None before is = subst (λ (l : List Change). IsPart (reverse before) l) (sym (append-nil written)) is
  asked_written written (Some change) before is =
      subst (λ (l : List Change). IsPart l (written ++ change ∷ [])) (sym (behind_all before change)) (part_more (reverse before) written (change ∷ []) (change ∷ []) is (part_itself (change ∷ [])))

  next_written : {issued : Option Identity} (family : List Version) (written : List Change) (mark : Mark) (asked : Option Change) (before : List Change) (table : Table) → AreWritten family written → IsFirst issued family asked before table ⊎ IsNext g family asked before table
      → AreWritten (record { mark = mark; table = table; changes = with_asked asked before; is_written = false } ∷ family) (written ++ with_asked asked [])
  next_written family written mark asked before table are may v has = elim (contains_cases (record { mark = mark; table = table; changes = with_asked asked before; is_written = false }) v family has) [
    | inl same ↦ subst (λ (x : Version). IsPart (reverse x.changes) (written ++ with_asked asked [])) same (asked_written written asked before (before_written family written asked before table are may))
    | inr behind ↦ written_behind family written (with_asked asked []) are v behind
  ]

  -- so were those of each table of a log that went on by these events
  pub all_written : (lg : Log) (es : List Event) (written : List Change) → AreWritten lg.family written → IsCourse g lg es → AreWritten (log_after_all lg es).family (written ++ changes_of (begun_by es))
  all_written lg [] written are course = subst (AreWritten lg.family) (sym (append-nil written)) are
  all_written lg (Issued identity ∷ es) written are course = all_written (log_after lg (Issued identity)) es written (λ v none. absurd (omega (arith, none.1))) course.1
  all_written lg (Writing mark asked before table ∷ es) written are course =
      let here = next_written lg.family written mark asked before table are course.0.1 in
      let there = all_written (log_after lg (Writing mark asked before table)) es (written ++ with_asked asked []) here course.1 in
      let begun : with_asked asked [] ++ changes_of (begun_by es) ≡ changes_of (asks_of asked ++ begun_by es) = ap (λ (l : List Change). l ++ changes_of (begun_by es)) (sym (changes_asked asked)) ∙ sym (changes_more (asks_of asked) (begun_by es)) in
      let same : (written ++ with_asked asked []) ++ changes_of (begun_by es) ≡ written ++ changes_of (asks_of asked ++ begun_by es) = append_assoc written (with_asked asked []) (changes_of (begun_by es)) ∙ ap (λ (l : List Change). written ++ l) begun in
      subst (AreWritten (log_after_all (log_after lg (Writing mark asked before table)) es).family) same there
  all_written lg (Written ∷ es) written are course = all_written (log_after lg Written) es written (written_answered lg.family written are) course.1
  all_written lg (Told which before ∷ es) written are course = all_written (log_after lg (Told which before)) es written are course.1
  all_written lg (Placing places ∷ es) written are course = all_written (log_after lg (Placing places)) es written are course.1
  all_written lg (Clearing ∷ es) written are course = all_written (log_after lg Clearing) es written are course.1
  all_written lg (Gone ∷ es) written are course = all_written (log_after lg Gone) es written are course.1

  -- What was told is a part of the acknowledged table's changes, in their order.
  abbrev pub IsToldPart : Option (List Change) → List Change → Type 0
  IsToldPart None told = told ≡ []
  IsToldPart (Some changes) told = IsPart told (reverse changes)

  -- nothing is acknowledged before a table is firm
  none_firm : (lg : Log) (told : List Change) → IsLog g lg → is_firm lg ≡ false → (acknowledged : Option (List Change)) → lg.acknowledged ≡ acknowledged → IsToldPart acknowledged told → told ≡ []
  none_firm lg told is loose None same part = part
  none_firm lg told is loose (Some changes) same part =
      let held = is.held changes same in
      let firm = written_firm lg.family held.by held.one_of held.written in
      absurd (cc (loose, firm))

  untold_part : (acknowledged : Option (List Change)) (told before : List Change) → IsUntold acknowledged before → IsToldPart acknowledged told → IsPart told (reverse before)
  untold_part None told before untold part = subst (λ (l : List Change). IsPart l (reverse before)) (sym part) tt
  untold_part (Some changes) told before untold part = oldest_extended before changes told untold part

  told_next : (lg : Log) (told which before : List Change) → IsTellable lg which before → IsToldPart lg.acknowledged told → IsPart (told ++ reverse which) (reverse (which ++ before))
  told_next lg told which before can part =
      let here = part_more told (reverse before) (reverse which) (reverse which) (untold_part lg.acknowledged told before can.untold part) (part_itself (reverse which)) in
      subst (λ (l : List Change). IsPart (told ++ reverse which) l) (sym (reverse-append which before)) here

  -- What was told, and what these events tell, since a creation was issued: that strikes what was told before.
  abbrev pub told_since : List Change → List Event → List Change
  told_since told [] = told
  told_since told (Issued identity ∷ es) = told_since [] es
  told_since told (Writing mark asked before table ∷ es) = told_since told es
  told_since told (Written ∷ es) = told_since told es
  told_since told (Told which before ∷ es) = told_since (told ++ reverse which) es
  told_since told (Placing places ∷ es) = told_since told es
  told_since told (Clearing ∷ es) = told_since told es
  told_since told (Gone ∷ es) = told_since told es

  pub all_told : (lg : Log) (es : List Event) (told : List Change) → IsLog g lg → IsToldPart lg.acknowledged told → IsCourse g lg es → IsToldPart (log_after_all lg es).acknowledged (told_since told es)
  all_told lg [] told is part course = part
  all_told lg (Issued identity ∷ es) told is part course = all_told (log_after lg (Issued identity)) es [] (is_log_after g lg (Issued identity) is course.0) refl course.1
  all_told lg (Writing mark asked before table ∷ es) told is part course = all_told (log_after lg (Writing mark asked before table)) es told (is_log_after g lg (Writing mark asked before table) is course.0) part course.1
  all_told lg (Written ∷ es) told is part course = all_told (log_after lg Written) es told (is_log_after g lg Written is course.0) part course.1
  all_told lg (Told which before ∷ es) told is part course = all_told (log_after lg (Told which before)) es (told ++ reverse which) (is_log_after g lg (Told which before) is course.0) (told_next lg told which before course.0 part) course.1
  all_told lg (Placing places ∷ es) told is part course = all_told (log_after lg (Placing places)) es told (is_log_after g lg (Placing places) is course.0) part course.1
  all_told lg (Clearing ∷ es) told is part course = all_told (log_after lg Clearing) es told (is_log_after g lg Clearing is course.0) part course.1
  all_told lg (Gone ∷ es) told is part course = all_told (log_after lg Gone) es told (is_log_after g lg Gone is course.0) part course.1

  -- as long as no end of what lives begins, nothing is struck
  pub none_struck : (lg : Log) (es : List Event) (told : List Change) → IsLog g lg → IsToldPart lg.acknowledged told → IsCourse g lg es → AreAll BeginsNoEnd es → lg.fate ≡ Lives → told_since told es ≡ told ++ changes_of (told_by es)
  none_struck lg [] told is part course none lives = sym (append-nil told)
  none_struck lg (Issued identity ∷ es) told is part course none lives =
      let nothing : told ≡ [] = elim course.0 [ inl loose ↦ none_firm lg told is loose lg.acknowledged refl part | inr over ↦ absurd (lives_there lg.fate lives over) ] in
      none_struck (log_after lg (Issued identity)) es [] (is_log_after g lg (Issued identity) is course.0) refl course.1 none.1 refl ∙ ap (λ (l : List Change). l ++ changes_of (told_by es)) (sym nothing)
  none_struck lg (Writing mark asked before table ∷ es) told is part course none lives = none_struck (log_after lg (Writing mark asked before table)) es told (is_log_after g lg (Writing mark asked before table) is course.0) part course.1 none.1 refl
  none_struck lg (Written ∷ es) told is part course none lives = none_struck (log_after lg Written) es told (is_log_after g lg Written is course.0) part course.1 none.1 lives
  none_struck lg (Told which before ∷ es) told is part course none lives =
      let next = log_after lg (Told which before) in
      let there = none_struck next es (told ++ reverse which) (is_log_after g lg (Told which before) is course.0) (told_next lg told which before course.0 part) course.1 none.1 lives in
      let told_here : changes_of (tells (Told which before) ++ told_by es) ≡ reverse which ++ changes_of (told_by es) =
      changes_more (tells (Told which before)) (told_by es) ∙ ap (λ (l : List Change). l ++ changes_of (told_by es)) (changes_told which before) in
      there ∙ append_assoc told (reverse which) (changes_of (told_by es)) ∙ ap (λ (l : List Change). told ++ l) (sym told_here)
  none_struck lg (Placing places ∷ es) told is part course none lives = none_struck (log_after lg (Placing places)) es told (is_log_after g lg (Placing places) is course.0) part course.1 none.1 lives
  none_struck lg (Clearing ∷ es) told is part course none lives = absurd none.0
  none_struck lg (Gone ∷ es) told is part course none lives = absurd (never_ends lg.fate lives course.0)
