-- A table of which all is noted tells of what its plan has.
use Rattle.std.proofs.Common.{◌≡◌, ◌<◌, ◌==◌, ◌||◌, ℕ, zero, suc, refl, sym, ap, subst, Bool, true, false, List, [], ◌∷◌, length, Option, None, Some, arith}
use Rattle.std.proofs.Common.{cond, inl, inr, map}
use Rattle.std.specs.Prelude.{fold, if◌then◌else◌, is_some, slice_get}
use Rattle.std.specs.Option.{option_map}
use Rattle.std.proofs.lemmas.Bool.Decides.{nat_tests}
use Rattle.mdv_plan.specs.Sorted.{with_put}
use Rattle.mdv_whole.specs.Below.{Pool, Spare}
use Rattle.mdv_whole.specs.Parted.{noted_spare, with_pool, with_spare, with_spares}
use Rattle.mdv_whole.specs.Sides.{pool_of, spare_of}
use Rattle.mdv_notes.specs.Named.{is_slice}
use Rattle.mdv_notes.specs.Spares.{spare_key}
use Rattle.mdv_notes.proofs.Finding.{same_or_other}
use Rattle.mdv_notes.proofs.SpareStates.{told}
use Rattle.std.specs.List.{find, list_any, AllZip}
use Rattle.mdv_plan.specs.declared.volume.VolumeKind.TheVariants.{Stripe as StripeKind, Mirror as MirrorKind, Raid as RaidKind, Soft as SoftKind}
use Rattle.mdv_whole.specs.Noted.{IsKindNoted, IsNoted, IsVolumeNoted}
use Rattle.mdv_notes.specs.Below.{VolId, SliceName, slice_code, SpareStatus, KindStatus, StripeNoted, MirrorNoted, RaidNoted, SoftNoted, OneVolume, VolumeKind, VolumeStatus, Table}
use Rattle.mdv_notes.specs.Flags.{kind_subs, subs_at}
use Rattle.mdv_notes.specs.Planned.{has_spare, is_spare, is_raid_at, is_raid_kind, is_volume, kind_width, TellsOfPlan, width_at}
use Rattle.mdv_notes.specs.Told.{flag_of, kind_flags, kind_parts, kind_state, state_in, told_of}

-- what holds of each volume and what is noted of it holds of those that are found by a number
module _ (v : VolId) (Q : Option OneVolume → Option VolumeStatus → Type 0) (none : Q None None) (both : (w : OneVolume) (s : VolumeStatus) → IsVolumeNoted w s → Q (Some w) (Some s)) where
  paired : (ws : List OneVolume) (ss : List VolumeStatus) → AllZip IsVolumeNoted ws ss → Q (find (λ w. w.number.0 == v.0) ws) (find (λ s. s.number.0 == v.0) ss)
  paired [] [] all = none
  paired [] (s ∷ ss) all = absurd all
  paired (w ∷ ws) [] all = absurd all
  paired (w ∷ ws) (s ∷ ss) all =
      subst (λ (b : Bool). Q (if w.number.0 == v.0 then Some w else find (λ w. w.number.0 == v.0) ws) (if b then Some s else find (λ s. s.number.0 == v.0) ss)) (ap (λ (n : VolId). n.0 == v.0) (sym all.0.number)) (one (w.number.0 == v.0) (paired ws ss all.1))
    where
      one : (b : Bool) → Q (find (λ w. w.number.0 == v.0) ws) (find (λ s. s.number.0 == v.0) ss) → Q (if b then Some w else find (λ w. w.number.0 == v.0) ws) (if b then Some s else find (λ s. s.number.0 == v.0) ss)
      one true rest = both w s all.0
      one false rest = rest

within_list : {T : Type 0} (xs : List T) (n : ℕ) → n < length xs → is_some (slice_get xs n) ≡ true
within_list [] n within = absurd (omega (arith, within))
within_list (x ∷ xs) zero within = refl
within_list (x ∷ xs) (suc n) within = within_list xs n (omega (arith, within))

flag_beside : (v : VolId) (vs : List VolId) (flags : List Bool) → length flags ≡ length vs → list_any (is_volume v) vs ≡ true → is_some (flag_of v vs flags) ≡ true
flag_beside v [] flags same there = there
flag_beside v (w ∷ ws) [] same there = absurd (omega (arith, same))
flag_beside v (w ∷ ws) (flag ∷ flags) same there = one (w.0 == v.0) there (flag_beside v ws flags (omega (arith, same)))
  where
    one : (b : Bool) → (b || list_any (is_volume v) ws) ≡ true → (list_any (is_volume v) ws ≡ true → is_some (flag_of v ws flags) ≡ true) → is_some (if b then Some flag else flag_of v ws flags) ≡ true
    one true there rest = refl
    one false there rest = rest there

parts_told : (n : ℕ) (k : VolumeKind) (m : KindStatus) → IsKindNoted k m → n < kind_width k → is_some (slice_get (kind_parts m) n) ≡ true
parts_told n (StripeKind s) (StripeNoted states) is within = within_list states n (omega (arith, within, is.0))
parts_told n (StripeKind s) (MirrorNoted m) is within = absurd is
parts_told n (StripeKind s) (RaidNoted m) is within = absurd is
parts_told n (StripeKind s) SoftNoted is within = absurd is
parts_told n (MirrorKind s) m is within = absurd (omega (arith, within))
parts_told n (RaidKind r) (RaidNoted m) is within = within_list m.columns n (omega (arith, within, is))
parts_told n (RaidKind r) (StripeNoted states) is within = absurd is
parts_told n (RaidKind r) (MirrorNoted m) is within = absurd is
parts_told n (RaidKind r) SoftNoted is within = absurd is
parts_told n (SoftKind s) m is within = absurd (omega (arith, within))

subs_told : (v : VolId) (k : VolumeKind) (m : KindStatus) → IsKindNoted k m → list_any (is_volume v) (kind_subs k) ≡ true → is_some (flag_of v (kind_subs k) (kind_flags m)) ≡ true
subs_told v (MirrorKind s) (MirrorNoted m) is there = flag_beside v s.submirrors m.offline is there
subs_told v (MirrorKind s) (StripeNoted states) is there = absurd is
subs_told v (MirrorKind s) (RaidNoted m) is there = absurd is
subs_told v (MirrorKind s) SoftNoted is there = absurd is
subs_told v (StripeKind s) m is there = there
subs_told v (RaidKind s) m is there = there
subs_told v (SoftKind s) m is there = there

raid_told : (k : VolumeKind) (m : KindStatus) → IsKindNoted k m → is_raid_kind k ≡ true → is_some (kind_state m) ≡ true
raid_told (RaidKind r) (RaidNoted m) is raid = refl
raid_told (RaidKind r) (StripeNoted states) is raid = absurd is
raid_told (RaidKind r) (MirrorNoted m) is raid = absurd is
raid_told (RaidKind r) SoftNoted is raid = absurd is
raid_told (StripeKind s) m is raid = grind (arith, raid)
raid_told (MirrorKind s) m is raid = grind (arith, raid)
raid_told (SoftKind s) m is raid = grind (arith, raid)

-- what is there stays there, or comes
or_next : (a b c d : Bool) → ((a || b) || c) ≡ true → ((a || c) ≡ true → d ≡ true) → (b || d) ≡ true
or_next a true c d is put = refl
or_next true false c d is put = put refl
or_next false false c d is put = put is

or_none : (b : Bool) → b ≡ true → (b || false) ≡ true
or_none true is = refl
or_none false is = is

module _ (s : SliceName) where
  -- a spare that is put in is told, and one that was told is
  put_tells : (x : SpareStatus) (acc : List SpareStatus) → (is_slice x.slice s || is_some (told s acc)) ≡ true → is_some (told s (with_put spare_key x acc)) ≡ true
  put_tells x [] there = one (spare_key x == slice_code s) there
    where
      one : (b : Bool) → (b || false) ≡ true → is_some (option_map state_in (cond b (Some x) None)) ≡ true
      one true there = refl
      one false there = there
  put_tells x (y ∷ ys) there = elim (same_or_other (spare_key y) (slice_code s)) [
    | inl here ↦ grind (arith, nat_tests)
    | inr other ↦
        let behind : (is_slice x.slice s || is_some (told s ys)) ≡ true = grind (arith, nat_tests) in
        let rest = put_tells x ys behind in
        grind (arith, nat_tests, behind, rest)
  ]

  spares_tell : (states acc : List SpareStatus) (ss : List Spare) → (list_any (is_spare s) ss || is_some (told s acc)) ≡ true → is_some (told s (with_spares acc (map (spare_of states) ss))) ≡ true
  spares_tell states acc [] there = there
  spares_tell states acc (q ∷ qs) there =
      let next = with_spare acc (spare_of states q) in
      spares_tell states next qs (or_next (is_spare s q) (list_any (is_spare s) qs) (is_some (told s acc)) (is_some (told s next)) there (put_tells (noted_spare (spare_of states q)) acc))

  pools_tell : (states acc : List SpareStatus) (ps : List Pool) → (list_any (has_spare s) ps || is_some (told s acc)) ≡ true → is_some (told s (fold with_pool acc (map (pool_of states) ps))) ≡ true
  pools_tell states acc [] there = there
  pools_tell states acc (p ∷ ps) there =
      let next = with_pool acc (pool_of states p) in
      pools_tell states next ps (or_next (has_spare s p) (list_any (has_spare s) ps) (is_some (told s acc)) (is_some (told s next)) there (spares_tell states acc p.spares))

pub tells_of_plan : (t : Table) → IsNoted t → TellsOfPlan t
tells_of_plan t noted = record {
  parts = λ at. paired at.volume (λ o s. at.place < width_at o → is_some (slice_get (told_of [] kind_parts s) at.place) ≡ true) (λ within. absurd (omega (arith, within))) (λ w s is within. parts_told at.place w.kind s.kind is.kind within) t.plan.volumes t.status.volumes noted.volumes;
  subs = λ m v. paired m (λ o s. list_any (is_volume v) (subs_at o) ≡ true → is_some (flag_of v (subs_at o) (told_of [] kind_flags s)) ≡ true) (λ there. there) (λ w s is there. subs_told v w.kind s.kind is.kind there) t.plan.volumes t.status.volumes noted.volumes;
  raids = λ v. paired v (λ o s. is_raid_at o ≡ true → is_some (told_of None kind_state s) ≡ true) (λ raid. raid) (λ w s is raid. raid_told w.kind s.kind is.kind raid) t.plan.volumes t.status.volumes noted.volumes;
  spares = λ s there.
      subst (λ (xs : List SpareStatus). is_some (told s xs) ≡ true) noted.spares (pools_tell s t.status.spares [] t.plan.pools (or_none (list_any (has_spare s) t.plan.pools) there));
}
