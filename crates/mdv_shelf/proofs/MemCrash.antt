-- A crash of drives in memory, one drive more at a time.
use Rattle.std.proofs.Common.{◌≡◌, ◌≢◌, ℕ, zero, suc, ◌+◌, ◌-◌, ◌<◌, ◌≤◌, ◌%◌, cond, eqb, ltb, replicate, List, [], ◌∷◌, ◌++◌, length, map, take, drop, get_or, set, sum, refl, sym, ◌∙◌, ap, subst, inl, inr, arith, lit<}
use Rattle.std.proofs.lemmas.List.{get_or-reverse, length-replicate, get_or-replicate, take_all, get_or_past, length-map, map-set, get_or-map, get_or-drop, drop-drop, take_more_set}
use Rattle.std.proofs.lemmas.Grind.{common_steps}
use Rattle.std.proofs.lemmas.Bool.{cases_eq, cases_lt, cond-true, cond-false, cond_both}
use Rattle.std.proofs.lemmas.Bool.Decides.{nat_tests}
use Rattle.std.proofs.Math.ListN.{get_or-map as length_at}
use Rattle.std.proofs.Math.Seq.{map-set_same}
use Rattle.std.proofs.Math.Path.{fun_ext}
use Rattle.mdv_shelf.specs.Tale.{Tale, Start, Begun, Then, last, values, told, writes, written, syncs, Among, MayLeave, IsImage}
use Rattle.mdv_shelf.specs.MemHistory.{zero_block, blank_block, blank, block_of, start_blocks, latest_blocks, lengths, continued, begun, tale_from, picked, image_of, stable, crashed, brought_back, Becomes, PicksBelow, ShowsLast, KeepsWithin}
use Rattle.mdv_shelf.specs.declared.mem_shelf.disk.Disk.{Disk}
use Rattle.mdv_shelf.specs.declared.mem_shelf.disk.MemCall.{MemCall}
use Rattle.mdv_shelf.proofs.MemLaws.{block_of-set, outside_is_nothing}

sum-take-more : (xs : List ℕ) (i : ℕ) → i < length xs → sum (take (i + 1) xs) ≡ sum (take i xs) + get_or xs i 0
sum-take-more xs i lt = grind (arith, common_steps)

module _ (disks first : List Disk) (i : ℕ) (d after : Disk) (lt : i < length disks) (is : d ≡ get_or disks i d)
    (sizes : lengths (start_blocks disks) ≡ lengths (start_blocks first)) (same : length after.start.items ≡ length d.start.items) where
  start_set : start_blocks (set disks i after) ≡ set (start_blocks disks) i after.start.items
  start_set = map-set (λ (x : Disk). x.start.items) disks i after

  start_there : d.start.items ≡ get_or (start_blocks disks) i []
  start_there = ap (λ (x : Disk). x.start.items) is ∙ sym (get_or-map (λ (x : Disk). x.start.items) disks i d [] lt)

  size_there : get_or (lengths (start_blocks first)) i 0 ≡ length d.start.items
  size_there = ap (λ (l : List ℕ). get_or l i 0) (sym sizes) ∙ length_at length (start_blocks disks) i [] ∙ ap (λ (l : List (List ℕ)). length l) (sym start_there)

  known : i < length (start_blocks disks)
  known = omega (arith, length-map disks (λ (x : Disk). x.start.items))

  known_size : i < length (lengths (start_blocks first))
  known_size = omega (arith, known, length-map (start_blocks disks) (λ (x : List (List ℕ)). length x), ap (λ (l : List ℕ). length l) sizes)

  pub crash_sizes : lengths (start_blocks (set disks i after)) ≡ lengths (start_blocks first)
  crash_sizes =
      ap lengths start_set
      ∙ map-set_same length (start_blocks disks) i after.start.items [] (same ∙ ap (λ (l : List (List ℕ)). length l) start_there)
      ∙ sizes

  pub crash_latest : after.latest.items ≡ after.start.items → take i (latest_blocks disks) ≡ take i (start_blocks disks)
      → take (i + 1) (latest_blocks (set disks i after)) ≡ take (i + 1) (start_blocks (set disks i after))
  crash_latest even so_far =
      ap (λ (l : List (List (List ℕ))). take (i + 1) l) (map-set (λ (x : Disk). x.latest.items) disks i after)
      ∙ take_more_set (latest_blocks disks) i after.latest.items (omega (arith, length-map disks (λ (x : Disk). x.latest.items)))
      ∙ ap (λ (l : List (List (List ℕ))). l ++ after.latest.items ∷ []) so_far
      ∙ ap (λ (x : List (List ℕ)). take i (start_blocks disks) ++ x ∷ []) even
      ∙ sym (take_more_set (start_blocks disks) i after.start.items known)
      ∙ ap (λ (l : List (List (List ℕ))). take (i + 1) l) (sym start_set)

  block_after : (drive block : ℕ) → block_of (start_blocks (set disks i after)) drive block ≡ cond (eqb i drive) (get_or after.start.items block []) (block_of (start_blocks disks) drive block)
  block_after drive block = ap (λ (l : List (List (List ℕ))). block_of l drive block) start_set ∙ block_of-set (start_blocks disks) i after.start.items drive block known

  block_other : (drive block : ℕ) → i ≢ drive → block_of (start_blocks (set disks i after)) drive block ≡ block_of (start_blocks disks) drive block
  block_other drive block other = block_after drive block ∙ cond-false (eqb i drive) _ _ (grind (arith, nat_tests))

  block_here : (drive block : ℕ) → i ≡ drive → block_of (start_blocks (set disks i after)) drive block ≡ get_or after.start.items block []
  block_here drive block here = block_after drive block ∙ cond-true (eqb i drive) _ _ (grind (arith, nat_tests))

  module _ (left : (drive block : ℕ) → i ≤ drive → block_of (start_blocks disks) drive block ≡ block_of (start_blocks first) drive block) where
    pub crash_left : (drive block : ℕ) → i + 1 ≤ drive → block_of (start_blocks (set disks i after)) drive block ≡ block_of (start_blocks first) drive block
    crash_left drive block past = block_other drive block (λ e. omega arith) ∙ left drive block (omega arith)

    pub started : (s : Start) → ((drive block : ℕ) → s.block drive block ≡ block_of (start_blocks first) drive block) → (block : ℕ) → s.block i block ≡ get_or d.start.items block []
    started s begins block = begins i block ∙ sym (left i block (omega arith)) ∙ ap (λ (l : List (List ℕ)). get_or l block []) (sym start_there)

  module _ (rest choice : List ℕ) (from : rest ≡ drop (sum (take i (lengths (start_blocks first)))) choice) where
    pub crash_rest : (next : List ℕ) → next ≡ drop (length d.start.items) rest → next ≡ drop (sum (take (i + 1) (lengths (start_blocks first)))) choice
    crash_rest next step =
        let total : sum (take i (lengths (start_blocks first))) + length d.start.items ≡ sum (take (i + 1) (lengths (start_blocks first))) =
        omega (arith, sum-take-more (lengths (start_blocks first)) i known_size, size_there) in
        step
        ∙ ap (λ (l : List ℕ). drop (length d.start.items) l) from
        ∙ drop-drop (length d.start.items) (sum (take i (lengths (start_blocks first)))) choice
        ∙ ap (λ (n : ℕ). drop n choice) total

    numbered : (block : ℕ) → get_or rest block 0 ≡ get_or choice (sum (take i (lengths (start_blocks first))) + block) 0
    numbered block = ap (λ (l : List ℕ). get_or l block 0) from ∙ get_or-drop (sum (take i (lengths (start_blocks first)))) choice block 0

    pub crash_done : (t : Tale) → Becomes after.start.items (length d.start.items) (λ block. picked (values t i block) (get_or rest block 0))
        → PicksBelow i t (lengths (start_blocks first)) choice (start_blocks disks) → PicksBelow (i + 1) t (lengths (start_blocks first)) choice (start_blocks (set disks i after))
    crash_done t here before drive block below within = elim (cases_eq i drive) [
      | inl same_drive ↦
          block_here drive block same_drive
          ∙ here block (omega (arith, within, size_there, ap (λ (j : ℕ). get_or (lengths (start_blocks first)) j 0) same_drive))
          ∙ ap (λ (k : ℕ). picked (values t i block) k) (numbered block)
          ∙ ap (λ (j : ℕ). image_of t (lengths (start_blocks first)) choice j block) same_drive
      | inr other ↦ block_other drive block other ∙ before drive block (omega arith) within
    ]

-- each drive's record holds as many blocks at the start as now
pub same_sizes : (disks : List Disk) → lengths (start_blocks disks) ≡ lengths (latest_blocks disks)
same_sizes [] = refl
same_sizes (x ∷ disks) = ap (λ (n : ℕ). n ∷ lengths (start_blocks disks)) x.same_length ∙ ap (λ (l : List ℕ). length x.latest.items ∷ l) (same_sizes disks)

-- a tale with no calls
begun_only : (t : Tale) (cs : List MemCall) → cs ≡ [] → continued t cs ≡ t
unfolding continued
begun_only t cs none = ap (λ (l : List MemCall). continued t l) none

last_begun : (drives : List (List (List ℕ))) (bytes : List ℕ) (drive block : ℕ) → last (begun drives bytes) drive block ≡ block_of drives drive block
unfolding last
last_begun drives bytes drive block = refl

values_begun : (drives : List (List (List ℕ))) (bytes : List ℕ) (drive block : ℕ) → values (begun drives bytes) drive block ≡ block_of drives drive block ∷ []
unfolding values
values_begun drives bytes drive block = refl

told_begun : (drives : List (List (List ℕ))) (bytes : List ℕ) → told (begun drives bytes) ≡ bytes
unfolding told
told_begun drives bytes = refl

-- drives whose tale begins now
module _ (disks : List Disk) (cs : List MemCall) (bytes : List ℕ) (n : ℕ) (none : cs ≡ []) (all : n ≡ length bytes) (even : latest_blocks disks ≡ start_blocks disks) where
  pub fresh_tale : tale_from disks cs n bytes ≡ begun (start_blocks disks) bytes
  fresh_tale = begun_only (begun (start_blocks disks) (take n bytes)) cs none ∙ ap (λ (l : List ℕ). begun (start_blocks disks) l) (take_all n bytes (omega (arith, all)))

  pub fresh_shows : ShowsLast (latest_blocks disks) (tale_from disks cs n bytes)
  fresh_shows drive block =
      ap (λ (l : List (List (List ℕ))). block_of l drive block) even
      ∙ sym (last_begun (start_blocks disks) bytes drive block)
      ∙ sym (ap (λ (t : Tale). last t drive block) fresh_tale)

  pub fresh_within : KeepsWithin (lengths (latest_blocks disks)) (tale_from disks cs n bytes)
  fresh_within drive block out =
      ap (λ (t : Tale). values t drive block) fresh_tale
      ∙ values_begun (start_blocks disks) bytes drive block
      ∙ ap (λ (v : List ℕ). v ∷ []) (ap (λ (l : List (List (List ℕ))). block_of l drive block) (sym even) ∙ outside_is_nothing (latest_blocks disks) drive block out)

  pub fresh_told : told (tale_from disks cs n bytes) ≡ bytes
  fresh_told = ap told fresh_tale ∙ told_begun (start_blocks disks) bytes

-- nothing is picked of nothing
picked_nothing : (k : ℕ) → get_or {A = List ℕ} ([] ∷ []) k [] ≡ []
picked_nothing zero = refl
picked_nothing (suc k) = refl

drive_known : (sizes : List ℕ) (drive block : ℕ) → block < get_or sizes drive 0 → drive < length sizes
drive_known [] drive block lt = absurd (omega arith)
drive_known (x ∷ sizes) zero block lt = omega arith
drive_known (x ∷ sizes) (suc drive) block lt = omega (arith, drive_known sizes drive block lt)

-- what two tales begin with is the same where it is the same at each block
begun_same : (drives : List (List (List ℕ))) (image : ℕ → ℕ → List ℕ) (bytes more : List ℕ) → ((drive block : ℕ) → block_of drives drive block ≡ image drive block) → bytes ≡ more
    → begun drives bytes ≡ Begun (record { block = image; told = more })
begun_same drives image bytes more each same =
    ap (λ (l : List ℕ). begun drives l) same
    ∙ ap (λ (f : ℕ → ℕ → List ℕ). Begun (record { block = f; told = more })) (fun_ext (λ drive. fun_ext (λ block. each drive block)))

-- all drives after a crash
module _ (disks after : List Disk) (t : Tale) (choice : List ℕ) (within : KeepsWithin (lengths (latest_blocks disks)) t)
    (sizes : lengths (start_blocks after) ≡ lengths (start_blocks disks))
    (picks : PicksBelow (length disks) t (lengths (start_blocks disks)) choice (start_blocks after)) where
  pub image_is : (drive block : ℕ) → block_of (start_blocks after) drive block ≡ image_of t (lengths (latest_blocks disks)) choice drive block
  image_is drive block = elim (cases_lt block (get_or (lengths (start_blocks disks)) drive 0)) [
    | inl inside ↦
        picks drive block (omega (arith, drive_known (lengths (start_blocks disks)) drive block inside, length-map (start_blocks disks) (λ (x : List (List ℕ)). length x), length-map disks (λ (x : Disk). x.start.items))) inside
        ∙ ap (λ (l : List ℕ). image_of t l choice drive block) (same_sizes disks)
    | inr past ↦
        outside_is_nothing (start_blocks after) drive block (omega (arith, past, ap (λ (l : List ℕ). get_or l drive 0) sizes))
        ∙ sym (picked_nothing (get_or choice (sum (take drive (lengths (latest_blocks disks))) + block) 0 % 1))
        ∙ sym (ap (λ (l : List (List ℕ)). picked l (get_or choice (sum (take drive (lengths (latest_blocks disks))) + block) 0))
        (within drive block (omega (arith, past, ap (λ (l : List ℕ). get_or l drive 0) (same_sizes disks)))))
  ]

  pub crashed_tale : (cs : List MemCall) (bytes : List ℕ) (n : ℕ) → cs ≡ [] → n ≡ length bytes → latest_blocks after ≡ start_blocks after → told t ≡ bytes
      → tale_from after cs n bytes ≡ crashed t (lengths (latest_blocks disks)) choice
  crashed_tale cs bytes n none all even tells =
      fresh_tale after cs bytes n none all even
      ∙ begun_same (start_blocks after) (image_of t (lengths (latest_blocks disks)) choice) bytes (told t) image_is (sym tells)

-- what the loop over all drives leaves
pub record CrashedDisks (disks : List Disk) (calls : List MemCall) (choice : List ℕ) (after : List Disk) : Type 0 where
  pub sizes : lengths (start_blocks after) ≡ lengths (start_blocks disks)
  pub latest : latest_blocks after ≡ start_blocks after
  pub picks : (s : Start) → ((drive block : ℕ) → s.block drive block ≡ block_of (start_blocks disks) drive block)
      → PicksBelow (length disks) (continued (Begun s) calls) (lengths (start_blocks disks)) choice (start_blocks after)

pub moved : (disks given after items : List Disk) (calls lent : List MemCall) (choice : List ℕ) → given ≡ disks → lent ≡ calls → items ≡ after
    → CrashedDisks given lent choice after → CrashedDisks disks calls choice items
moved disks given after items calls lent choice gave lends fill crash =
    subst (λ (l : List Disk). CrashedDisks disks calls choice l) (sym fill)
    (subst (λ (l : List MemCall). CrashedDisks disks l choice after) lends
    (subst (λ (l : List Disk). CrashedDisks l lent choice after) gave crash))

-- drives in memory after a crash, with their record cleared
pub record AfterCrash (disks after : List Disk) (bytes : List ℕ) (t u next : Tale) : Type 0 where
  pub tale : u ≡ next
  pub sizes : lengths (latest_blocks after) ≡ lengths (latest_blocks disks)
  pub number : length after ≡ length disks
  pub shows : ShowsLast (latest_blocks after) u
  pub within : KeepsWithin (lengths (latest_blocks after)) u
  pub tells : told u ≡ bytes

same_number : (disks after : List Disk) → lengths (start_blocks after) ≡ lengths (start_blocks disks) → length after ≡ length disks
same_number disks after sizes =
    omega (
      arith,
      ap (λ (l : List ℕ). length l) sizes,
      length-map (start_blocks disks) (λ (x : List (List ℕ)). length x),
      length-map disks (λ (x : Disk). x.start.items),
      length-map (start_blocks after) (λ (x : List (List ℕ)). length x),
      length-map after (λ (x : Disk). x.start.items),
    )

pub after_crash : (disks after : List Disk) (calls cs : List MemCall) (before n : ℕ) (bytes choice : List ℕ) → CrashedDisks disks calls choice after → cs ≡ [] → n ≡ length bytes
    → KeepsWithin (lengths (latest_blocks disks)) (tale_from disks calls before bytes) → told (tale_from disks calls before bytes) ≡ bytes
    → AfterCrash disks after bytes (tale_from disks calls before bytes) (tale_from after cs n bytes) (crashed (tale_from disks calls before bytes) (lengths (latest_blocks disks)) choice)
after_crash disks after calls cs before n bytes choice crash none all within tells =
    let s : Start = record { block = block_of (start_blocks disks); told = take before bytes } in
    let t = tale_from disks calls before bytes in
    record {
      tale = crashed_tale disks after t choice within crash.sizes (crash.picks s (λ drive block. refl)) cs bytes n none all crash.latest tells;
      sizes = ap lengths crash.latest ∙ crash.sizes ∙ same_sizes disks;
      number = same_number disks after crash.sizes;
      shows = fresh_shows after cs bytes n none all crash.latest;
      within = fresh_within after cs bytes n none all crash.latest;
      tells = fresh_told after cs bytes n none all crash.latest;
    }

-- one drive comes back, and each other takes what a read gives
module _ (disks items : List Disk) (i : ℕ) (d after : Disk) (calls : List MemCall) (before : ℕ) (bytes : List ℕ) (lt : i < length disks) (is : d ≡ get_or disks i d)
    (same : length after.start.items ≡ length d.start.items) (even : after.latest.items ≡ after.start.items)
    (picks : (s : Start) → ((block : ℕ) → s.block i block ≡ get_or d.start.items block [])
    → Becomes after.start.items (length d.start.items) (λ block. picked (values (continued (Begun s) calls) i block) 0))
    (starts : start_blocks items ≡ latest_blocks (set disks i after)) (latests : latest_blocks items ≡ latest_blocks (set disks i after))
    (shows : ShowsLast (latest_blocks disks) (tale_from disks calls before bytes))
    (within : KeepsWithin (lengths (latest_blocks disks)) (tale_from disks calls before bytes)) where
  back_start : d.start.items ≡ get_or (start_blocks disks) i []
  back_start = ap (λ (x : Disk). x.start.items) is ∙ sym (get_or-map (λ (x : Disk). x.start.items) disks i d [] lt)

  back_latest : d.latest.items ≡ get_or (latest_blocks disks) i []
  back_latest = ap (λ (x : Disk). x.latest.items) is ∙ sym (get_or-map (λ (x : Disk). x.latest.items) disks i d [] lt)

  latest_set : latest_blocks (set disks i after) ≡ set (latest_blocks disks) i after.latest.items
  latest_set = map-set (λ (x : Disk). x.latest.items) disks i after

  back_known : i < length (latest_blocks disks)
  back_known = omega (arith, lt, length-map disks (λ (x : Disk). x.latest.items))

  back_length : length after.latest.items ≡ length (get_or (latest_blocks disks) i [])
  back_length = ap (λ (l : List (List ℕ)). length l) even ∙ same ∙ d.same_length ∙ ap (λ (l : List (List ℕ)). length l) back_latest

  back_sizes : lengths (latest_blocks items) ≡ lengths (latest_blocks disks)
  back_sizes = ap lengths (latests ∙ latest_set) ∙ map-set_same length (latest_blocks disks) i after.latest.items [] back_length

  stable_there : (block : ℕ) → get_or after.latest.items block [] ≡ picked (values (tale_from disks calls before bytes) i block) 0
  stable_there block = ap (λ (l : List (List ℕ)). get_or l block []) even ∙ elim (cases_lt block (length d.start.items)) [
    | inl inside ↦ picks (record { block = block_of (start_blocks disks); told = take before bytes }) (λ b. ap (λ (l : List (List ℕ)). get_or l b []) (sym back_start)) block inside
    | inr past ↦
        get_or_past after.start.items block [] (omega (arith, past, same))
        ∙ sym (ap (λ (l : List (List ℕ)). picked l 0) (within i block (omega (arith, past, d.same_length, ap (λ (l : List (List ℕ)). length l) back_latest, length_at length (latest_blocks disks) i []))))
  ]

  back_image : (drive block : ℕ) → block_of (start_blocks items) drive block ≡ cond (eqb i drive) (stable (tale_from disks calls before bytes) drive block) (last (tale_from disks calls before bytes) drive block)
  back_image drive block =
      ap (λ (l : List (List (List ℕ))). block_of l drive block) (starts ∙ latest_set)
      ∙ block_of-set (latest_blocks disks) i after.latest.items drive block back_known
      ∙ elim (cases_eq i drive) [
        | inl here ↦
            cond-true (eqb i drive) _ _ (grind (arith, nat_tests))
            ∙ stable_there block
            ∙ ap (λ (j : ℕ). stable (tale_from disks calls before bytes) j block) here
            ∙ sym (cond-true (eqb i drive) _ _ (grind (arith, nat_tests)))
        | inr other ↦
            cond-false (eqb i drive) _ _ (grind (arith, nat_tests))
            ∙ shows drive block
            ∙ sym (cond-false (eqb i drive) _ _ (grind (arith, nat_tests)))
      ]

  pub after_back : (cs : List MemCall) (n : ℕ) → cs ≡ [] → n ≡ length bytes → told (tale_from disks calls before bytes) ≡ bytes
      → AfterCrash disks items bytes (tale_from disks calls before bytes) (tale_from items cs n bytes) (brought_back (tale_from disks calls before bytes) i)
  after_back cs n none all tells =
      let t = tale_from disks calls before bytes in
      let level : latest_blocks items ≡ start_blocks items = latests ∙ sym starts in
      record {
        tale = fresh_tale items cs bytes n none all level
            ∙ begun_same (start_blocks items) (λ drive block. cond (eqb i drive) (stable t drive block) (last t drive block)) bytes (told t) back_image (sym tells);
        sizes = back_sizes;
        number = same_number disks items (same_sizes items ∙ back_sizes ∙ sym (same_sizes disks));
        shows = fresh_shows items cs bytes n none all level;
        within = fresh_within items cs bytes n none all level;
        tells = fresh_told items cs bytes n none all level;
      }

-- the calls as they were lent
pub lent_picks : (i : ℕ) (d after : Disk) (lent calls : List MemCall) → lent ≡ calls
    → ((s : Start) → ((block : ℕ) → s.block i block ≡ get_or d.start.items block []) → Becomes after.start.items (length d.start.items) (λ block. picked (values (continued (Begun s) lent) i block) 0))
    → (s : Start) → ((block : ℕ) → s.block i block ≡ get_or d.start.items block []) → Becomes after.start.items (length d.start.items) (λ block. picked (values (continued (Begun s) calls) i block) 0)
lent_picks i d after lent calls lends picks s begins =
    subst (λ (l : List MemCall). Becomes after.start.items (length d.start.items) (λ block. picked (values (continued (Begun s) l) i block) 0)) lends (picks s begins)

-- new drives
blank_sizes : (sizes : List ℕ) (value : List ℕ) → lengths (map (λ (n : ℕ). replicate n value) sizes) ≡ sizes
blank_sizes [] value = refl
blank_sizes (n ∷ sizes) value = ap (λ (k : ℕ). k ∷ lengths (map (λ (m : ℕ). replicate m value) sizes)) (length-replicate n value) ∙ ap (λ (l : List ℕ). n ∷ l) (blank_sizes sizes value)

blank_drive : (n block : ℕ) (value : List ℕ) → get_or (replicate n value) block [] ≡ cond (ltb block n) value []
blank_drive n block value = elim (cases_lt block n) [
  | inl inside ↦ get_or-replicate n block value [] inside ∙ sym (cond-true (ltb block n) value [] (grind (arith, nat_tests)))
  | inr past ↦ get_or_past (replicate n value) block [] (omega (arith, past, length-replicate n value)) ∙ sym (cond-false (ltb block n) value [] (grind (arith, nat_tests)))
]

blank_at : (sizes : List ℕ) (drive block : ℕ) → block_of (map (λ (n : ℕ). replicate n zero_block) sizes) drive block ≡ blank_block sizes drive block
blank_at [] drive block = sym (cond-false (ltb block 0) zero_block [] (grind (arith, nat_tests)))
blank_at (n ∷ sizes) zero block = blank_drive n block zero_block
blank_at (n ∷ sizes) (suc drive) block = blank_at sizes drive block

pub record AfterNew (disks : List Disk) (sizes bytes : List ℕ) (u : Tale) : Type 0 where
  pub tale : u ≡ blank sizes
  pub sizes_are : lengths (latest_blocks disks) ≡ sizes
  pub number : length disks ≡ length sizes
  pub shows : ShowsLast (latest_blocks disks) u
  pub within : KeepsWithin (lengths (latest_blocks disks)) u
  pub tells : told u ≡ bytes

pub after_new : (disks : List Disk) (sizes : List ℕ) (cs : List MemCall) (bytes : List ℕ) → cs ≡ [] → bytes ≡ []
    → start_blocks disks ≡ map (λ (n : ℕ). replicate n zero_block) sizes → latest_blocks disks ≡ map (λ (n : ℕ). replicate n zero_block) sizes
    → AfterNew disks sizes bytes (tale_from disks cs 0 bytes)
after_new disks sizes cs bytes none silent starts latests =
    let even : latest_blocks disks ≡ start_blocks disks = latests ∙ sym starts in
    let all : 0 ≡ length bytes = sym (ap (λ (l : List ℕ). length l) silent) in
    record {
      tale = fresh_tale disks cs bytes 0 none all even
          ∙ begun_same (start_blocks disks) (blank_block sizes) bytes [] (λ drive block. ap (λ (l : List (List (List ℕ))). block_of l drive block) starts ∙ blank_at sizes drive block) silent;
      sizes_are = ap lengths latests ∙ blank_sizes sizes zero_block;
      number = omega (arith, length-map disks (λ (x : Disk). x.latest.items), ap (λ (l : List (List (List ℕ))). length l) latests, length-map sizes (λ (n : ℕ). replicate n zero_block));
      shows = fresh_shows disks cs bytes 0 none all even;
      within = fresh_within disks cs bytes 0 none all even;
      tells = fresh_told disks cs bytes 0 none all even;
    }

-- each block has a value that a crash may leave
some_value : (t : Tale) (drive block : ℕ) → 0 < length (values t drive block)
unfolding values
some_value (Begun s) drive block = lit< tt
some_value (Then t c) drive block =
    cond_both (writes c drive block) (written c block ∷ values t drive block) (cond (syncs c drive) (last t drive block ∷ []) (values t drive block)) (λ (l : List (List ℕ)). 0 < length l)
    (λ _. omega arith)
    (λ _. cond_both (syncs c drive) (last t drive block ∷ []) (values t drive block) (λ (l : List (List ℕ)). 0 < length l) (λ _. lit< tt) (λ _. some_value t drive block))

among_at : (xs : List (List ℕ)) (i : ℕ) → i < length xs → Among xs (get_or xs i [])
among_at [] i lt = absurd (omega arith)
among_at (x ∷ xs) zero lt = inl refl
among_at (x ∷ xs) (suc i) lt = inr (among_at xs i (omega arith))

-- what is picked is one of the values
pub is_image : (t : Tale) (sizes choice : List ℕ) → IsImage t (image_of t sizes choice)
unfolding MayLeave
is_image t sizes choice = record {
  each = λ drive block.
      let xs = values t drive block in
      let k = get_or choice (sum (take drive sizes) + block) 0 % length xs in
      let some : 0 < length xs = some_value t drive block in
      let below : k < length xs = omega (arith, some) in
      subst (λ (x : List ℕ). Among xs x) (sym (get_or-reverse xs k [] below)) (among_at xs (length xs - 1 - k) (omega (arith, below)));
}
