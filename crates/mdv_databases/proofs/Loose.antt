-- What a deleted database has left on the drives counts no more: its last place is blank, and a boot may find no table but the one that lists that place alone.
use Rattle.std.proofs.Common.{◌≡◌, inl, inr, ℕ, ◌-◌, ◌*◌, Bool, true, false, List, [], ◌∷◌, length, cond, Some, Contains, refl, sym, ◌∙◌, ap, subst, arith}
use Rattle.std.specs.Prelude.{count_by}
use Rattle.std.proofs.lemmas.Bool.{and_from, cond-true, false_from_ne_true, false≢true, lt-ltb, or_cases, or_left}
use Rattle.std.proofs.lemmas.List.Elements.{All-contains, All-head}
use Rattle.mdv_quorum.proofs.Deleted.{IsLastBlank, last_blank}
use Rattle.mdv_shown.specs.declared.site.Site.{Site}
use Rattle.mdv_standing.specs.Below.{Image, IsBelow, Over, Spot, SpotLists, Version, covers, is_in, is_majority, is_named, place_at, same_spot, spot_on, table_at}
use Rattle.mdv_standing.specs.Matching.{IsDeleted, is_set, lists_of, spot_in, spots_of as lists_of_spots, version_at}
use Rattle.mdv_standing.specs.Others.{IsLoose}
use Rattle.mdv_standing.specs.Worlds.{IsWorld}
use Rattle.mdv_standing.proofs.Versions.{version_newest}
use Rattle.mdv_store_law.specs.Log.{IsLog, IsNotOlder, IsRising}
use Rattle.mdv_store_law.proofs.Families.{contains_cases}
use Rattle.mdv_votes.proofs.Meeting.{same_is, same_self, step_counted}
use Rattle.mdv_votes.specs.Quorum.{is_read_list}
use Rattle.mdv_databases.specs.Below.{Core, Database, Geometry, Identity, Lists, Log, One, SliceLine, Spells, Table, Tale, site_of, slice_at}
use Rattle.mdv_databases.specs.Creating.{IsLooseAt}
use Rattle.mdv_databases.specs.Standing.{HasOnePlace, Stand}
use Rattle.mdv_store_law.proofs.Fates.{lives_there}

module _ (Spells : List ℕ → Table → Type 0) (g : Geometry) (site : Site) (identity : Identity) (log : Log) (is_log : IsLog g log) (over : log.fate ≡ Over) (sole : HasOnePlace log) where
  -- a boot may find its newest table alone
  only_newest : (v : Version) → Contains log.family v → IsNotOlder v.mark log.family → v ≡ sole.newest
  only_newest v has found =
      let rising : IsRising (sole.newest ∷ sole.older) = subst IsRising sole.is is_log.rising in
      let none = subst (IsNotOlder v.mark) sole.is found in
      elim (contains_cases sole.newest v sole.older (subst (λ (l : List Version). Contains l v) sole.is has)) [
        | inl here ↦ sym here
        | inr behind ↦
            absurd (All-head (λ (x : Version). x.is_written ≡ true → IsBelow v.mark x.mark → ⊥) sole.newest sole.older none sole.written
            (All-contains (λ (x : Version). IsBelow x.mark sole.newest.mark) sole.older v rising.0 behind))
      ]

  -- its only place
  abbrev its : Spot
  its = spot_in (slice_at site.lines sole.place.slice) sole.place

  abbrev lists : SpotLists
  lists = lists_of_spots site (One (sole.place ∷ []))

  newest_lists : lists_of site sole.newest ≡ lists
  newest_lists = ap (λ (l : Lists). lists_of_spots site l) sole.only

  -- who read that place alone read enough
  itself_read : (knows : Spot → Bool) → covers (is_read_list [] (same_spot its) knows) lists ≡ true
  itself_read knows =
      let all = is_majority (same_spot its) (its ∷ []) in
      let most : all ≡ true = lt-ltb 1 (2 * count_by (same_spot its) (its ∷ [])) (omega (arith, step_counted (same_spot its) its [], cond-one)) in
      and_from (is_read_list [] (same_spot its) knows (its ∷ [])) true (or_left all _ most) refl
    where
      cond-one : cond {A = ℕ} (same_spot its its) 1 0 ≡ 1
      cond-one = cond-true {A = ℕ} (same_spot its its) 1 0 (same_self its)

  module _ (w : Core) (image : Image) (world : IsWorld Spells site identity log w image) where
    deleted : IsDeleted w
    deleted = world.matches.gone over

    blank : IsLastBlank w deleted.0
    blank =
        let r = world.reached in
        subst (λ (x : Core). IsLastBlank x deleted.0) r.2 (last_blank (is_set site.key) r.0 r.1 deleted.0 (subst (λ (x : Core). x.deleted ≡ Some deleted.0) (sym r.2) deleted.1))

    last_lists : (table_at w.family (length w.family - 1)).lists ≡ lists
    last_lists =
        let some = blank.some in
        let many = world.matches.as_many in
        let long : length log.family ≡ length (sole.newest ∷ sole.older) = ap length sole.is in
        let n = length w.family - 1 in
        let newest : version_at log.family n ≡ sole.newest = ap (λ (f : List Version). version_at f n) sole.is ∙ version_newest sole.newest sole.older n (omega (arith, some, many, long)) in
        (world.matches.each n (omega (arith, some))).lists ∙ ap (lists_of site) newest ∙ newest_lists

    -- the place that is blank is that one
    is_its : its ≡ deleted.0
    is_its =
        same_is its deleted.0
        (blank.needed (same_spot its) (λ q. false) (subst (λ (l : SpotLists). covers (is_read_list l.mediators (same_spot its) (λ q. false)) l ≡ true) (sym last_lists) (itself_read (λ q. false))))

    pub loose : (line : SliceLine) → IsLoose Spells site identity log image line
    loose line v has found j first head own = false_from_ne_true (is_named (lists_of site v) s) (λ named. elim (or_cases (same_spot its s) false (in_one named)) [
      | inl same ↦
          let holds = (world.shows.each line j first head own).holds in
          let is = sym (same_is its s same) ∙ is_its in
          absurd (false≢true (sym blank.wiped ∙ ap (λ (q : Spot). (place_at w.places q).holds) (sym is) ∙ holds))
      | inr none ↦ absurd (false≢true none)
    ])
      where
        s : Spot
        s = spot_on line first.blocks j

        in_one : is_named (lists_of site v) s ≡ true → is_in (its ∷ []) s ≡ true
        in_one named =
            let here : is_named lists s ≡ true = subst (λ (l : SpotLists). is_named l s ≡ true) (ap (lists_of site) (only_newest v has found) ∙ newest_lists) named in
            elim (or_cases (is_in (its ∷ []) s) false here) [ inl is ↦ is | inr none ↦ absurd (false≢true none) ]

pub over_loose : (g : Geometry) (all : List Database) (t : Tale) → Stand g all t → (d : Database) (line : SliceLine) → Contains all d → d.log.fate ≡ Over → IsLooseAt g d line t
over_loose g all t stand d line has over image is =
    let w = (stand.worlds image is).worlds d has in
    loose (Spells g) g (site_of g d.key) d.identity d.log (stand.logs d has) over (stand.ended d has (λ lives. lives_there d.log.fate lives over)) w.0 image w.1 line
