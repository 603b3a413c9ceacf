-- Why no boot of a run is blind for the host's database: each drive answered on which its replicas may lie, or those of most of each list of places that the lines may have come to; so a database stays open.
use Rattle.std.proofs.Common.{◌≡◌, inl, inr, ℕ, Bool, true, false, List, [], ◌∷◌, ◌++◌, Some, Contains, refl, sym, ◌∙◌, ap, subst, append_assoc}
use Rattle.std.proofs.lemmas.List.Elements.{Contains-append_left, Contains-append_right}
use Rattle.std.proofs.lemmas.List.{append-nil}
use Rattle.mdv_base.specs.declared.drive.SliceName.{SliceName}
use Rattle.mdv_engine_law.specs.Hosts.{key_of}
use Rattle.mdv_engine_law.specs.Line.{HasNoTableOn, IsSame, Memory, contents}
use Rattle.mdv_engine_law.specs.Standing.{StandsAt}
use Rattle.mdv_engine_law.specs.declared.host.Host.{Host}
use Rattle.mdv_name.specs.SliceIndex.{HasSlice}
use Rattle.mdv_name.specs.declared.geometry.Geometry.{Geometry}
use Rattle.mdv_name.specs.declared.slice_lines.SliceAt.{SliceAt}
use Rattle.mdv_name.specs.declared.slice_lines.SliceLine.{SliceLine}
use Rattle.mdv_port.specs.Script.{Script}
use Rattle.mdv_run_law.specs.Lives.{Ran, host_of}
use Rattle.mdv_shelf.specs.Everywhere.{Image}
use Rattle.mdv_shelf.specs.Failing.{Outcomes}
use Rattle.mdv_shelf.specs.Tale.{Tale}
use Rattle.mdv_shown.proofs.Sites.{law_sites}
use Rattle.mdv_shown.specs.Sites.{is_line_of}
use Rattle.mdv_store.specs.Opened.{Opened}
use Rattle.mdv_config.specs.Slices.{IsSound}
use Rattle.mdv_volumes.proofs.Found.{AreLasting}
use Rattle.mdv_volumes.proofs.Lists.{contains_behind, contains_first, first_or_behind, in_filter}
use Rattle.mdv_volumes.specs.Databases.{log_of}
use Rattle.mdv_volumes.specs.History.{History}
use Rattle.mdv_theorem.specs.Exchanges.{Exchange}
use Rattle.mdv_theorem.specs.Observed.{MostAnswered}
use Rattle.mdv_theorem.specs.Running.{AllAnswered, Running}
use Rattle.mdv_theorem.specs.Words.{KeepsDatabase, MayBecome, TellsPlaces}
use Rattle.mdv_theorem.proofs.Accords.{Any, lists_behind, lists_idle}
use Rattle.mdv_theorem.proofs.Adopted.{IsBlind, blind_bare, firm_shows}
use Rattle.mdv_theorem.proofs.Agreeing.{own_sound}
use Rattle.mdv_theorem.proofs.Fronts.{AreUntold}
use Rattle.mdv_theorem.proofs.Lines.{never_in}
use Rattle.mdv_theorem.proofs.Lists.{ListsLie}
use Rattle.mdv_theorem.proofs.Majority.{MostUp, lists_see}
use Rattle.mdv_theorem.proofs.Slices.{become_more, left_there}
use Rattle.mdv_theorem.proofs.Steps.{Between, Failed, Steps, no_step, one_step, skipped}
use Rattle.mdv_theorem.proofs.Tables.{NeverBlind, OpenLine, falls, keeps_open, keeps_shown, leaves, leaves_takes, open_line, rests}
use Rattle.mdv_theorem.proofs.Tells.{tells_or_not, told_open}

-- lines of which none was told to have moved places may have left them
pub left_all : (drives : Geometry) (name : List ℕ) (lines : List Exchange) → AreUntold lines → (slices : List SliceName) → MayBecome drives name lines slices slices
left_all drives name [] untold slices = refl
left_all drives name (one ∷ lines) untold slices =
    (slices, left_there drives name one slices (untold one (contains_first one lines)), left_all drives name lines (λ other has. untold other (contains_behind one other lines has)) slices)

pub one_more_untold : (one : Exchange) (rest : List Exchange) → (TellsPlaces one → ⊥) → AreUntold rest → AreUntold (one ∷ rest)
one_more_untold one rest never untold other has = elim (first_or_behind one other rest has) [
  | inl same ↦ λ tells. never (subst TellsPlaces (sym same) tells)
  | inr behind ↦ untold other behind
]

module _ (host : Host) (Fails : ℕ → Type 0) where
  -- Of these lines the last that was told to have moved places, with those before it, and a database that is open behind it; or none was.
  pub data LastTold (from last : Between host) (es : List Exchange) : Type 1 where
    none_moved : AreUntold es → LastTold from last es
    moved_last : (front rest : List Exchange) → es ≡ front ++ rest → (mid : Between host) → Steps host Fails from front mid → (o : Opened) → mid.kept.memory.opened ≡ Some o → AreUntold rest → Steps host Fails mid rest last → LastTold from last es

  pub told_last : (from last : Between host) (es : List Exchange) → KeepsDatabase es → Steps host Fails from es last → LastTold from last es
  told_last from last es keeps (no_step at) = none_moved (λ one has. absurd (never_in one has))
  told_last from last es keeps (skipped at mid end rest same idled steps) = by (told_last mid last es keeps steps) where
    by : LastTold mid last es → LastTold from last es
    by (none_moved untold) = none_moved untold
    by (moved_last front behind is to upto o opened untold after) = moved_last front behind is to (skipped at mid to front same idled upto) o opened untold after
  told_last from last es keeps (one_step calls at mid end one answer rest unfailed comes said told writes led steps) = by (told_last mid last rest (λ other has. keeps other (contains_behind one other rest has)) steps) where
    here : AreUntold rest → LastTold from last es
    here untold = elim (tells_or_not host calls at.kept mid.kept one answer comes said told) [
      | inl tells ↦
          let there = told_open host calls at.kept mid.kept one answer comes said told (keeps one (contains_first one rest)) tells in
          moved_last (one ∷ []) rest refl mid (one_step calls at mid mid one answer [] unfailed comes said told writes led (no_step mid)) there.0 there.1 untold steps
      | inr never ↦ none_moved (one_more_untold one rest never untold)
    ]

    by : LastTold mid last rest → LastTold from last es
    by (none_moved untold) = here untold
    by (moved_last front behind is to upto o opened untold after) =
        moved_last (one ∷ front) behind (ap (λ (l : List Exchange). one ∷ l) is) to (one_step calls at mid to one answer front unfailed comes said told writes led upto) o opened untold after

module _ (drives : Geometry) (name : List ℕ) (before : List Ran) (script : Script) (sound : IsSound drives) (run : Running drives name before script) where
  abbrev host : Host
  host = host_of drives name run.fresh

  its_sound : IsSound host.drives
  its_sound = own_sound drives name run.fresh sound

  -- calls failed on drives alone that failed in the run
  abbrev pub IsOfRun : Outcomes → Type 0
  IsOfRun calls = (drive : ℕ) → (Failed run drive → ⊥) → (calls drive).some → ⊥

  module _ (calm : AllAnswered run) where
    bare_or_never : (calls : Outcomes) (content : Image) → IsOfRun calls → IsBlind host calls content → (HasNoTableOn host.drives (key_of host) content → ⊥) → ⊥
    bare_or_never calls content unfailed blind shown = elim (blind_bare host refl calls content blind) [
      | inl bare ↦ shown bare
      | inr fallen ↦ unfailed fallen.0.at.drive.0 (calm fallen.0 fallen.1) fallen.2
    ]

    pub all_never : (from : Between host) → NeverBlind host (Failed run) from
    all_never from front mid steps o opened calls unfailed blind = bare_or_never calls mid.kept.content unfailed blind (keeps_shown host Any mid (keeps_open host Any mid o opened tt))

    pub all_first : (h : History) → StandsAt host h run.t.tale → AreLasting host.drives Any (log_of h.databases (key_of host)) → (calls : Outcomes) → IsOfRun calls → IsBlind host calls (contents run.t.tale) → ⊥
    all_first h stands are calls unfailed blind =
        bare_or_never calls (contents run.t.tale) unfailed blind (λ none. firm_shows host h run.t.tale stands are.lives are.firm (contents run.t.tale) (λ drive block. refl) none)

  -- most of each list answered that these lines may have come to
  module _ (lines : List Exchange) (slices : List SliceName) (most : (last : List SliceName) → MayBecome drives name lines slices last → MostAnswered run last) where
    up_of : (calls : Outcomes) (content : Image) → IsOfRun calls → (blind : IsBlind host calls content) → (last : List SliceName) → MostAnswered run last → MostUp drives name slices run.fresh its_sound blind.up last
    up_of calls content unfailed blind last answered = record { chosen = answered.chosen; most = answered.most; each = λ slice at is has. by slice at is has (blind.up at.drive.0) refl } where
      by : (slice : SliceName) (at : SliceAt) → answered.chosen slice ≡ true → HasSlice host.site.lines slice at → (b : Bool) → blind.up at.drive.0 ≡ b → b ≡ true
      by slice at is has true up = refl
      by slice at is has false up =
          let line : SliceLine = record { name = slice; at = at } in
          let own = law_sites.brought host.drives (key_of host) line has in
          let seen = (in_filter (is_line_of host.drives (key_of host)) host.drives.slices line has).0 in
          absurd (unfailed at.drive.0 (answered.each slice at is seen) (blind.failed at.drive own up))

    -- so no boot is blind, if no line behind it was told to have moved places
    pub most_sees : (done left : List Exchange) → lines ≡ done ++ left → AreUntold left → (h : History) (t : Tale) → StandsAt host h t → ListsLie drives name slices done h → (content : Image) → IsSame content (contents t) → (calls : Outcomes) → IsOfRun calls → IsBlind host calls content → ⊥
    most_sees done left is untold h t stands lie content reads calls unfailed blind =
        lists_see drives name slices run.fresh its_sound done h t content stands lie reads calls blind
        (λ now may. up_of calls content unfailed blind now
        (most now (subst (λ (l : List Exchange). MayBecome drives name l slices now) (sym is) (become_more drives name done left slices now now may (left_all drives name left untold now)))))

    -- and a database that is open stays so
    stays_open : (from last : Between host) (done es : List Exchange) → lines ≡ done ++ es → AreUntold es → KeepsDatabase es → ListsLie drives name slices done from.sure.history → (o : Opened) → from.kept.memory.opened ≡ Some o → Steps host (Failed run) from es last
        → (later : Opened) × (last.kept.memory.opened ≡ Some later)
    stays_open from last done es is untold keeps lie o opened (no_step at) = (o, opened)
    stays_open from last done es is untold keeps lie o opened (skipped at mid end rest same idled steps) =
        stays_open mid last done es is untold keeps (lists_idle drives name run.fresh sound slices done at.sure.history mid.sure.history idled lie) o (ap (λ (m : Memory). m.opened) same.memory ∙ opened) steps
    stays_open from last done es is untold keeps lie o opened (one_step calls at mid end one answer rest unfailed comes said told writes led steps) =
        let never = keeps one (contains_first one rest) in
        let now = by (open_line host calls one.text answer at.kept mid.kept o opened comes said) in
        stays_open mid last (done ++ one ∷ []) rest (is ∙ sym (append_assoc done (one ∷ []) rest)) (λ other has. untold other (contains_behind one other rest has)) (λ other has. keeps other (contains_behind one other rest has))
        (lists_behind drives name run.fresh sound calls at mid one answer comes said told led slices done never lie) now.0 now.1 steps
      where
        by : OpenLine host calls one.text answer at.kept mid.kept → (later : Opened) × (mid.kept.memory.opened ≡ Some later)
        by (rests later opened_now) = (later, opened_now)
        by (falls blind none) = absurd (most_sees done (one ∷ rest) is untold at.sure.history at.sure.tale at.sure.known.stands lie at.kept.content at.sure.reads calls unfailed blind)
        by (leaves dropped spelled so none) = absurd (keeps one (contains_first one rest) (leaves_takes one answer told dropped spelled so))

    lies_on : (from last : Between host) (done es : List Exchange) → KeepsDatabase es → ListsLie drives name slices done from.sure.history → Steps host (Failed run) from es last → ListsLie drives name slices (done ++ es) last.sure.history
    lies_on from last done es keeps lie (no_step at) = subst (λ (l : List Exchange). ListsLie drives name slices l at.sure.history) (sym (append-nil done)) lie
    lies_on from last done es keeps lie (skipped at mid end rest same idled steps) = lies_on mid last done es keeps (lists_idle drives name run.fresh sound slices done at.sure.history mid.sure.history idled lie) steps
    lies_on from last done es keeps lie (one_step calls at mid end one answer rest unfailed comes said told writes led steps) =
        subst (λ (l : List Exchange). ListsLie drives name slices l last.sure.history) (append_assoc done (one ∷ []) rest)
        (lies_on mid last (done ++ one ∷ []) rest (λ other has. keeps other (contains_behind one other rest has))
        (lists_behind drives name run.fresh sound calls at mid one answer comes said told led slices done (keeps one (contains_first one rest)) lie) steps)

    -- So one is open behind all these lines, if one was open before them, or a line of them was told to have moved places.
    pub most_open : (from last : Between host) (done es : List Exchange) → lines ≡ done ++ es → KeepsDatabase es → ListsLie drives name slices done from.sure.history → (AreUntold es → (o : Opened) × (from.kept.memory.opened ≡ Some o)) → Steps host (Failed run) from es last
        → (later : Opened) × (last.kept.memory.opened ≡ Some later)
    most_open from last done es is keeps lie opens steps = by (told_last host (Failed run) from last es keeps steps) where
      by : LastTold host (Failed run) from last es → (later : Opened) × (last.kept.memory.opened ≡ Some later)
      by (none_moved untold) = (let first = opens untold in stays_open from last done es is untold keeps lie first.0 first.1 steps)
      by (moved_last front rest parts mid upto o opened untold after) =
          let all : lines ≡ (done ++ front) ++ rest = is ∙ ap (λ (l : List Exchange). done ++ l) parts ∙ sym (append_assoc done front rest) in
          let left : KeepsDatabase rest = λ one has. keeps one (subst (λ (l : List Exchange). Contains l one) (sym parts) (Contains-append_right front rest one has)) in
          let first : KeepsDatabase front = λ one has. keeps one (subst (λ (l : List Exchange). Contains l one) (sym parts) (Contains-append_left front rest one has)) in
          stays_open mid last (done ++ front) rest all untold left (lies_on from mid done front first lie upto) o opened after
