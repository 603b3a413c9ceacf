-- A boot begins: it crashed, drives are back, and replicas are read.
use Rattle.std.proofs.Common.{◌≡◌, inl, inr, ℕ, zero, suc, ◌<◌, ◌==◌, ◌||◌, Bool, true, false, List, [], ◌∷◌, ◌++◌, length, refl, sym, ◌∙◌, ap, subst, map, cond, Contains, None, append_assoc, append-nil, arith}
use Rattle.std.proofs.lemmas.Bool.{cases_Bool, and_from, or_left, or_parts, or_from, cond-true, cond-false, not_from_false}
use Rattle.std.specs.Prelude.{not, slice_index_or}
use Rattle.mdv_base.specs.declared.drive.DriveNo.{DriveNo}
use Rattle.mdv_quorum.specs.May.{MayAll, is_lost, is_up}
use Rattle.mdv_quorum.specs.World.{crashed, without_drive}
use Rattle.mdv_quorum.proofs.Events.{after_both, may_both}
use Rattle.mdv_store_law.specs.Machine.{AreAll}
use Rattle.mdv_standing.specs.Below.{Back, Core, Crash, Event, HaveRead, Identity, Image, Log, Read, Reading, Seen, Site, Spot, Table, after_all, place_at, spot_seen, spots_seen}
use Rattle.mdv_standing.specs.Matching.{Matches, Reached, tables_of}
use Rattle.mdv_standing.specs.Worlds.{IsWorld, Turned}
use Rattle.mdv_standing.specs.Adopting.{AreOwn, IsLook, IsOfDrive}
use Rattle.mdv_standing.proofs.Reaching.{reached_more, standing}

-- those of these drives that are lost are back
abbrev back_all : List DriveNo → List DriveNo → List Event
back_all lost [] = []
back_all lost (d ∷ ds) = cond (is_lost lost d.0) (Back d ∷ back_all (without_drive lost d.0) ds) (back_all lost ds)

abbrev remaining : List DriveNo → List DriveNo → List DriveNo
remaining lost [] = lost
remaining lost (d ∷ ds) = cond (is_lost lost d.0) (remaining (without_drive lost d.0) ds) (remaining lost ds)

of_drives : (ds lost : List DriveNo) → AreAll IsOfDrive (back_all lost ds)
of_drives [] lost = tt
of_drives (d ∷ ds) lost =
    elim (cases_Bool (is_lost lost d.0)) [
      | inl is ↦ subst (AreAll IsOfDrive) (sym (cond-true (is_lost lost d.0) (Back d ∷ back_all (without_drive lost d.0) ds) (back_all lost ds) is)) ((d, inr refl), of_drives ds (without_drive lost d.0))
      | inr isnt ↦ subst (AreAll IsOfDrive) (sym (cond-false (is_lost lost d.0) (Back d ∷ back_all (without_drive lost d.0) ds) (back_all lost ds) isnt)) (of_drives ds lost)
    ]

backs_may : (ds : List DriveNo) (w : Core) → MayAll w (back_all w.lost ds) × (after_all w (back_all w.lost ds) ≡ record w { lost = remaining w.lost ds })
backs_may [] w = (tt, refl)
backs_may (d ∷ ds) w =
    elim (cases_Bool (is_lost w.lost d.0)) [
      | inl is ↦
          let more = backs_may ds (record w { lost = without_drive w.lost d.0 }) in
          let events = cond-true (is_lost w.lost d.0) (Back d ∷ back_all (without_drive w.lost d.0) ds) (back_all w.lost ds) is in
          let left = cond-true (is_lost w.lost d.0) (remaining (without_drive w.lost d.0) ds) (remaining w.lost ds) is in (
            subst (λ (es : List Event). MayAll w es) (sym events) (is, more.0),
            ap (after_all w) events ∙ more.1 ∙ ap (λ (l : List DriveNo). record w { lost = l }) (sym left),
          )
      | inr isnt ↦
          let more = backs_may ds w in
          let events = cond-false (is_lost w.lost d.0) (Back d ∷ back_all (without_drive w.lost d.0) ds) (back_all w.lost ds) isnt in
          let left = cond-false (is_lost w.lost d.0) (remaining (without_drive w.lost d.0) ds) (remaining w.lost ds) isnt in (
            subst (λ (es : List Event). MayAll w es) (sym events) more.0,
            ap (after_all w) events ∙ more.1 ∙ ap (λ (l : List DriveNo). record w { lost = l }) (sym left),
          )
    ]

gone : (lost : List DriveNo) (d : ℕ) → is_lost (without_drive lost d) d ≡ false
gone [] d = refl
gone (x ∷ lost) d =
    elim (cases_Bool (x.0 == d)) [
      | inl is ↦ ap (λ (b : Bool). is_lost (cond (not b) (x ∷ without_drive lost d) (without_drive lost d)) d) is ∙ gone lost d
      | inr isnt ↦ ap (λ (b : Bool). is_lost (cond (not b) (x ∷ without_drive lost d) (without_drive lost d)) d) isnt ∙ or_from (x.0 == d) (is_lost (without_drive lost d) d) isnt (gone lost d)
    ]

still : (lost : List DriveNo) (d n : ℕ) → is_lost lost n ≡ false → is_lost (without_drive lost d) n ≡ false
still [] d n none = refl
still (x ∷ lost) d n none =
    let parts = or_parts (x.0 == n) (is_lost lost n) none in
    elim (cases_Bool (x.0 == d)) [
      | inl is ↦ ap (λ (b : Bool). is_lost (cond (not b) (x ∷ without_drive lost d) (without_drive lost d)) n) is ∙ still lost d n parts.1
      | inr isnt ↦ ap (λ (b : Bool). is_lost (cond (not b) (x ∷ without_drive lost d) (without_drive lost d)) n) isnt ∙ or_from (x.0 == n) (is_lost (without_drive lost d) n) parts.0 (still lost d n parts.1)
    ]

never_lost : (ds lost : List DriveNo) (n : ℕ) → is_lost lost n ≡ false → is_lost (remaining lost ds) n ≡ false
never_lost [] lost n none = none
never_lost (d ∷ ds) lost n none =
    elim (cases_Bool (is_lost lost d.0)) [
      | inl is ↦ ap (λ (l : List DriveNo). is_lost l n) (cond-true (is_lost lost d.0) (remaining (without_drive lost d.0) ds) (remaining lost ds) is) ∙ never_lost ds (without_drive lost d.0) n (still lost d.0 n none)
      | inr isnt ↦ ap (λ (l : List DriveNo). is_lost l n) (cond-false (is_lost lost d.0) (remaining (without_drive lost d.0) ds) (remaining lost ds) isnt) ∙ never_lost ds lost n none
    ]

abbrev drives_of : List Seen → List DriveNo
drives_of seen = map (λ (s : Seen). s.line.at.drive) seen

-- the drives of what is read are up
drive_at : (seen : List Seen) (s : Seen) (k : ℕ) → k < length seen → slice_index_or seen k s ≡ s → (lost : List DriveNo) → is_lost (remaining lost (drives_of seen)) s.line.at.drive.0 ≡ false
drive_at [] s k lt e lost = absurd (omega (arith, lt))
drive_at (x ∷ seen) s zero lt e lost =
    let d = x.line.at.drive.0 in
    let ds = drives_of seen in
    let mine : d ≡ s.line.at.drive.0 = ap (λ (y : Seen). y.line.at.drive.0) e in
    elim (cases_Bool (is_lost lost d)) [
      | inl is ↦
          ap (λ (l : List DriveNo). is_lost l s.line.at.drive.0) (cond-true (is_lost lost d) (remaining (without_drive lost d) ds) (remaining lost ds) is)
          ∙ never_lost ds (without_drive lost d) s.line.at.drive.0 (subst (λ (n : ℕ). is_lost (without_drive lost d) n ≡ false) mine (gone lost d))
      | inr isnt ↦
          ap (λ (l : List DriveNo). is_lost l s.line.at.drive.0) (cond-false (is_lost lost d) (remaining (without_drive lost d) ds) (remaining lost ds) isnt)
          ∙ never_lost ds lost s.line.at.drive.0 (subst (λ (n : ℕ). is_lost lost n ≡ false) mine isnt)
    ]
drive_at (x ∷ seen) s (suc k) lt e lost =
    let d = x.line.at.drive.0 in
    let ds = drives_of seen in
    elim (cases_Bool (is_lost lost d)) [
      | inl is ↦
          ap (λ (l : List DriveNo). is_lost l s.line.at.drive.0) (cond-true (is_lost lost d) (remaining (without_drive lost d) ds) (remaining lost ds) is)
          ∙ drive_at seen s k (omega (arith, lt)) e (without_drive lost d)
      | inr isnt ↦
          ap (λ (l : List DriveNo). is_lost l s.line.at.drive.0) (cond-false (is_lost lost d) (remaining (without_drive lost d) ds) (remaining lost ds) isnt)
          ∙ drive_at seen s k (omega (arith, lt)) e lost
    ]

-- a replica may be read
abbrev MayRead : Core → List Seen → Type 0
MayRead v seen = (s : Seen) → Contains seen s → (is_up v.lost (spot_seen s) ≡ true) × ((place_at v.places (spot_seen s)).holds ≡ true)

reads_may : (seen : List Seen) (v : Core) (places : List Spot) → MayRead v seen
    → MayAll (record v { stage = Reading places }) (map Read (spots_seen seen))
    × (after_all (record v { stage = Reading places }) (map Read (spots_seen seen)) ≡ record v { stage = Reading (places ++ spots_seen seen) })
reads_may [] v places each = (tt, ap (λ (l : List Spot). record v { stage = Reading l }) (sym (append-nil places)))
reads_may (s ∷ seen) v places each =
    let here = each s (0, omega arith, refl) in
    let p = spot_seen s in
    let more = reads_may seen v (places ++ p ∷ []) (λ x has. each x (suc has.0, omega (arith, has.1), has.2)) in (
      (and_from (is_up v.lost p) ((place_at v.places p).holds || p.mediator) here.0 (or_left (place_at v.places p).holds p.mediator here.1), more.0),
      more.1 ∙ ap (λ (l : List Spot). record v { stage = Reading l }) (append_assoc places (p ∷ []) (spots_seen seen)),
    )

module _ (Spells : List ℕ → Table → Type 0) (site : Site) (identity : Identity) (log : Log) (w : Core) (image : Image) (world : IsWorld Spells site identity log w image)
    (seen : List Seen) (own : AreOwn Spells site identity image seen) where
  -- the world behind the crash, with these drives back
  abbrev up : Core
  up = record w { lost = remaining w.lost (drives_of seen); stage = Reading []; adopted = None }

  abbrev looked : Core
  looked = record up { stage = Reading (spots_seen seen) }

  readable : MayRead up seen
  readable s has = (
    not_from_false (is_lost (remaining w.lost (drives_of seen)) s.line.at.drive.0) (drive_at seen s has.0 has.1 has.2 w.lost),
    (world.shows.each s.line s.number s.first s.head (own s has)).holds,
  )

  abbrev looks_by : List Event
  looks_by = Crash ∷ (back_all w.lost (drives_of seen) ++ map Read (spots_seen seen))

  leads : MayAll w looks_by × (after_all w looks_by ≡ looked)
  leads =
      let backs = backs_may (drives_of seen) (crashed w) in
      let reads = reads_may seen up [] readable in
      let es = back_all w.lost (drives_of seen) in
      let fs = map Read (spots_seen seen) in (
        (refl, may_both (crashed w) es fs backs.0 (subst (λ (v : Core). MayAll v fs) (sym backs.1) reads.0)),
        after_both (crashed w) es fs ∙ ap (λ (v : Core). after_all v fs) backs.1 ∙ reads.1,
      )

  same_log : Matches site log looked
  same_log =
      let m = world.matches in
      record { kind = m.kind; book = m.book; as_many = m.as_many; each = m.each; answered = m.answered; dropped = m.dropped; steady = m.steady; reused = m.reused; there = m.there; gone = m.gone }

  world_looked : IsWorld Spells site identity log looked image
  world_looked = record {
    reached = subst (λ (v : Core). Reached site v) leads.1 (reached_more site w looks_by world.reached leads.0);
    matches = same_log;
    shows = record { each = world.shows.each; only = world.shows.only; seats = world.shows.seats };
    listed = elim world.listed [
      | inl have ↦ inl have
      | inr (inl none) ↦ inr (inl (record { read = spots_seen seen; stage = refl; none = λ p i has. none.none p i (record { holds = has.holds; newest = has.newest }) }))
      | inr (inr gone) ↦ inr (inr gone)
    ];
  }

  have_read : HaveRead Spells site identity (tables_of log.family) looked image seen
  have_read = record { shows = world_looked.shows; family = (standing site looked world_looked.reached).family; own = own; stage = refl }

  pub looks : Turned Spells site identity log w image (IsLook (spots_seen seen)) (λ v. HaveRead Spells site identity (tables_of log.family) v image seen)
  looks = record {
    events = looks_by;
    are = record { drives = back_all w.lost (drives_of seen); of_drives = of_drives (drives_of seen) w.lost; is = refl };
    may = leads.0;
    world = subst (λ (v : Core). IsWorld Spells site identity log v image) (sym leads.1) world_looked;
    known = subst (λ (v : Core). HaveRead Spells site identity (tables_of log.family) v image seen) (sym leads.1) have_read;
  }
