-- What one more call does to what drives in memory hold and tell.
use Rattle.std.proofs.Common.{◌≡◌, ℕ, zero, suc, ◌+◌, ◌-◌, ◌<◌, ◌≤◌, Bool, true, false, cond, ◌&&◌, eqb, leb, ltb, List, [], ◌∷◌, ◌++◌, length, take, drop, get_or, set, refl, sym, ◌∙◌, ap, subst, inl, inr, arith, length-append}
use Rattle.std.proofs.lemmas.List.{append-nil, take_all, length-take-le, length-drop, get_or-set_same, get_or-set_other, get_or-drop, get_or_append_left, get_or-append_right, get_or-take, get_or-map, get_or_past, length-map, map-set, take-append-le, take_more, take_more_set}
use Rattle.std.proofs.lemmas.Bool.{cases_eq, cases_lt, cond-true, cond-false, cond_both}
use Rattle.std.proofs.lemmas.Bool.Decides.{nat_tests, Decides-eqb}
use Rattle.std.proofs.Math.ListN.{get_or-map as length_at}
use Rattle.std.proofs.Math.Seq.{map-set_same}
use Rattle.mdv_shelf.specs.Tale.{Tale, Then, Call, Wrote, Synced, Gave, last, values, told}
use Rattle.mdv_shelf.specs.Calls.{InDrive}
use Rattle.mdv_shelf.specs.MemHistory.{block_of, start_blocks, latest_blocks, lengths, IsOutside, call_of, continued, begun, tale_from, ShowsLast, KeepsWithin, Puts}
use Rattle.mdv_shelf.specs.declared.mem_shelf.disk.Disk.{Disk}
use Rattle.mdv_shelf.specs.declared.mem_shelf.disk.MemCall.{MemCall}

-- the newest call is the outermost
pub continued-push : (t : Tale) (cs : List MemCall) (c : MemCall) → continued t (cs ++ c ∷ []) ≡ Then (continued t cs) (call_of c)
unfolding continued
continued-push t [] c = refl
continued-push t (x ∷ cs) c = continued-push (Then t (call_of x)) cs c

-- a block past a drive's end
pub outside_is_nothing : (drives : List (List (List ℕ))) (drive block : ℕ) → IsOutside (lengths drives) drive block → block_of drives drive block ≡ []
outside_is_nothing [] drive block out = refl
outside_is_nothing (x ∷ drives) zero block out = get_or_past x block [] out
outside_is_nothing (x ∷ drives) (suc drive) block out = outside_is_nothing drives drive block out

-- how many blocks a drive has
pub size_at : (disks : List Disk) (i : ℕ) (d : Disk) → i < length (lengths (latest_blocks disks)) → get_or (lengths (latest_blocks disks)) i 0 ≡ length (get_or disks i d).latest.items
size_at [] i d lt = absurd (omega arith)
size_at (x ∷ disks) zero d lt = refl
size_at (x ∷ disks) (suc i) d lt = size_at disks i d (omega arith)

-- a block of a drive
pub block_at : (disks : List Disk) (i : ℕ) (d : Disk) (block : ℕ) → i < length disks → block_of (latest_blocks disks) i block ≡ get_or (get_or disks i d).latest.items block []
block_at [] i d block lt = absurd (omega arith)
block_at (x ∷ disks) zero d block lt = refl
block_at (x ∷ disks) (suc i) d block lt = block_at disks i d block (omega arith)

pub same_number : (disks : List Disk) → length (lengths (latest_blocks disks)) ≡ length disks
same_number [] = refl
same_number (x ∷ disks) = ap suc (same_number disks)

-- a range within a drive is within its blocks, which a read then gives
module _ (disks : List Disk) (i at count : ℕ) (range : InDrive (lengths (latest_blocks disks)) i at count) (d : Disk) (is : d ≡ get_or disks i d) where
  pub has_drive : i < length disks
  has_drive = omega (arith, range.known, same_number disks)

  pub range_fits : at + count ≤ length d.latest.items
  range_fits = omega (arith, range.within, size_at disks i d range.known, ap (λ (x : Disk). length x.latest.items) is)

  pub block_there : (block : ℕ) → get_or d.latest.items block [] ≡ block_of (latest_blocks disks) i block
  block_there block = ap (λ (x : Disk). get_or x.latest.items block []) is ∙ sym (block_at disks i d block has_drive)

-- where blocks were laid in
module _ (old : List (List ℕ)) (at : ℕ) (blocks new : List (List ℕ)) (puts : Puts old at blocks new) (fits : at + length blocks ≤ length old) where
  front_length : length (take at old ++ blocks) ≡ at + length blocks
  front_length = omega (arith, length-append (take at old) blocks, length-take-le at old (omega arith))

  past_it : (k : ℕ) → at + length blocks ≤ k → get_or new k [] ≡ get_or old k []
  past_it k past =
      ap (λ (l : List (List ℕ)). get_or l k []) puts
      ∙ get_or-append_right (take at old ++ blocks) (drop (at + length blocks) old) (at + length blocks) k [] front_length past
      ∙ get_or-drop (at + length blocks) old (k - (at + length blocks)) []
      ∙ ap (λ (j : ℕ). get_or old j []) (omega arith)

  within_it : (k : ℕ) → at ≤ k → k < at + length blocks → get_or new k [] ≡ get_or blocks (k - at) []
  within_it k above below =
      ap (λ (l : List (List ℕ)). get_or l k []) puts
      ∙ get_or_append_left (take at old ++ blocks) (drop (at + length blocks) old) [] k (omega (arith, front_length))
      ∙ get_or-append_right (take at old) blocks at k [] (length-take-le at old (omega arith)) above

  before_it : (k : ℕ) → k < at → get_or new k [] ≡ get_or old k []
  before_it k before =
      ap (λ (l : List (List ℕ)). get_or l k []) puts
      ∙ get_or_append_left (take at old ++ blocks) (drop (at + length blocks) old) [] k (omega (arith, front_length))
      ∙ get_or_append_left (take at old) blocks [] k (omega (arith, length-take-le at old (omega arith)))
      ∙ get_or-take at old k [] before

  pub get_or-puts : (k : ℕ) → get_or new k [] ≡ cond (leb at k && ltb k (at + length blocks)) (get_or blocks (k - at) []) (get_or old k [])
  get_or-puts k = elim (cases_lt k at) [
    | inl before ↦ before_it k before ∙ sym (cond-false (leb at k && ltb k (at + length blocks)) _ _ (grind (arith, nat_tests)))
    | inr above ↦ elim (cases_lt k (at + length blocks)) [
      | inl below ↦ within_it k above below ∙ sym (cond-true (leb at k && ltb k (at + length blocks)) _ _ (grind (arith, nat_tests)))
      | inr past ↦ past_it k past ∙ sym (cond-false (leb at k && ltb k (at + length blocks)) _ _ (grind (arith, nat_tests)))
    ]
  ]

  pub length-puts : length new ≡ length old
  length-puts = omega (arith, ap length puts, length-append (take at old ++ blocks) (drop (at + length blocks) old), front_length, length-drop (at + length blocks) old)

-- what a drive holds where its blocks are replaced
pub block_of-set : (drives : List (List (List ℕ))) (i : ℕ) (new : List (List ℕ)) (drive block : ℕ) → i < length drives
    → block_of (set drives i new) drive block ≡ cond (eqb i drive) (get_or new block []) (block_of drives drive block)
block_of-set drives i new drive block lt = elim (cases_eq i drive) [
  | inl same ↦ subst (λ j. block_of (set drives i new) j block ≡ cond (eqb i j) (get_or new block []) (block_of drives j block)) same
      (ap (λ (d : List (List ℕ)). get_or d block []) (get_or-set_same drives i new [] lt) ∙ sym (cond-true (eqb i i) _ _ (grind (arith, nat_tests))))
  | inr other ↦ ap (λ (d : List (List ℕ)). get_or d block []) (get_or-set_other drives i drive new [] (λ e. other (sym e))) ∙ sym (cond-false (eqb i drive) _ _ (grind (arith, nat_tests)))
]

pub last-wrote : (t : Tale) (i at : ℕ) (blocks : List (List ℕ)) (drive block : ℕ)
    → last (Then t (Wrote i at blocks)) drive block ≡ cond (eqb i drive && leb at block && ltb block (at + length blocks)) (get_or blocks (block - at) []) (last t drive block)
unfolding last
last-wrote t i at blocks drive block = refl

pub last-synced : (t : Tale) (i drive block : ℕ) → last (Then t (Synced i)) drive block ≡ last t drive block
unfolding last
last-synced t i drive block = refl

pub last-gave : (t : Tale) (piece : List ℕ) (n drive block : ℕ) → last (Then t (Gave piece n)) drive block ≡ last t drive block
unfolding last
last-gave t piece n drive block = refl

pub values-wrote : (t : Tale) (i at : ℕ) (blocks : List (List ℕ)) (drive block : ℕ)
    → values (Then t (Wrote i at blocks)) drive block ≡ cond (eqb i drive && leb at block && ltb block (at + length blocks)) (get_or blocks (block - at) [] ∷ values t drive block) (values t drive block)
unfolding values
values-wrote t i at blocks drive block = refl

pub values-synced : (t : Tale) (i drive block : ℕ) → values (Then t (Synced i)) drive block ≡ cond (eqb i drive) (last t drive block ∷ []) (values t drive block)
unfolding values
values-synced t i drive block = refl

pub values-gave : (t : Tale) (piece : List ℕ) (n drive block : ℕ) → values (Then t (Gave piece n)) drive block ≡ values t drive block
unfolding values
values-gave t piece n drive block = refl

pub told-wrote : (t : Tale) (i at : ℕ) (blocks : List (List ℕ)) → told (Then t (Wrote i at blocks)) ≡ told t
unfolding told
told-wrote t i at blocks = append-nil (told t)

pub told-synced : (t : Tale) (i : ℕ) → told (Then t (Synced i)) ≡ told t
unfolding told
told-synced t i = append-nil (told t)

pub told-gave : (t : Tale) (piece : List ℕ) → told (Then t (Gave piece (length piece))) ≡ told t ++ piece
unfolding told
told-gave t piece = ap (λ (l : List ℕ). told t ++ l) (take_all (length piece) piece (omega arith))

-- the record has one call more
pub tale_from-push : (disks : List Disk) (calls new : List MemCall) (c : MemCall) (before : ℕ) (told : List ℕ) → new ≡ calls ++ c ∷ []
    → tale_from disks new before told ≡ Then (tale_from disks calls before told) (call_of c)
tale_from-push disks calls new c before told is =
    let first = begun (start_blocks disks) (take before told) in
    ap (λ (cs : List MemCall). continued first cs) is ∙ continued-push first calls c

-- a sync
module _ (drives : List (List (List ℕ))) (t u : Tale) (i : ℕ) (is : u ≡ Then t (Synced i)) (shows : ShowsLast drives t) where
  pub shows_synced : ShowsLast drives u
  shows_synced drive block = shows drive block ∙ sym (last-synced t i drive block) ∙ sym (ap (λ (x : Tale). last x drive block) is)

  pub within_synced : KeepsWithin (lengths drives) t → KeepsWithin (lengths drives) u
  within_synced within drive block out =
      ap (λ (x : Tale). values x drive block) is
      ∙ values-synced t i drive block
      ∙ cond_both (eqb i drive) (last t drive block ∷ []) (values t drive block) (λ (l : List (List ℕ)). l ≡ [] ∷ [])
      (λ _. ap (λ (v : List ℕ). v ∷ []) (sym (shows drive block) ∙ outside_is_nothing drives drive block out))
      (λ _. within drive block out)

  pub told_synced : told u ≡ told t
  told_synced = ap told is ∙ told-synced t i

-- a giving
module _ (drives : List (List (List ℕ))) (t u : Tale) (piece : List ℕ) (is : u ≡ Then t (Gave piece (length piece))) where
  pub shows_given : ShowsLast drives t → ShowsLast drives u
  shows_given shows drive block = shows drive block ∙ sym (last-gave t piece (length piece) drive block) ∙ sym (ap (λ (x : Tale). last x drive block) is)

  pub within_given : KeepsWithin (lengths drives) t → KeepsWithin (lengths drives) u
  within_given within drive block out = ap (λ (x : Tale). values x drive block) is ∙ values-gave t piece (length piece) drive block ∙ within drive block out

  pub told_given : told u ≡ told t ++ piece
  told_given = ap told is ∙ told-gave t piece

-- tests of a range
in_range : (b p q : Bool) (x y z w : List ℕ) → (b ≡ true → x ≡ cond (p && q) z w) → (b ≡ false → y ≡ w) → cond b x y ≡ cond (b && p && q) z w
in_range true p q x y z w here there = here refl
in_range false p q x y z w here there = there refl

no_range : (b p q : Bool) → (b ≡ true → q ≡ false) → (b && p && q) ≡ false
no_range true true q none = none refl
no_range true false q none = refl
no_range false p q none = refl

-- a write, which replaces one drive's blocks
module _ (drives : List (List (List ℕ))) (t u : Tale) (i at : ℕ) (blocks new : List (List ℕ)) (is : u ≡ Then t (Wrote i at blocks)) (shows : ShowsLast drives t)
    (known : i < length drives) (fits : at + length blocks ≤ length (get_or drives i [])) (puts : Puts (get_or drives i []) at blocks new) where
  pub lengths_written : lengths (set drives i new) ≡ lengths drives
  lengths_written = map-set_same length drives i new [] (length-puts (get_or drives i []) at blocks new puts fits)

  pub shows_written : ShowsLast (set drives i new) u
  shows_written drive block =
      block_of-set drives i new drive block known
      ∙ in_range (eqb i drive) (leb at block) (ltb block (at + length blocks)) (get_or new block []) (block_of drives drive block) (get_or blocks (block - at) []) (last t drive block)
      (λ b. get_or-puts (get_or drives i []) at blocks new puts fits block
      ∙ ap (λ (v : List ℕ). cond (leb at block && ltb block (at + length blocks)) (get_or blocks (block - at) []) v)
      (shows i block ∙ ap (λ (j : ℕ). last t j block) ((Decides-eqb i drive).0 b)))
      (λ _. shows drive block)
      ∙ sym (last-wrote t i at blocks drive block)
      ∙ sym (ap (λ (x : Tale). last x drive block) is)

  -- the range of the write ends within the drive
  misses : (drive block : ℕ) → IsOutside (lengths drives) drive block → (eqb i drive && leb at block && ltb block (at + length blocks)) ≡ false
  misses drive block out = no_range (eqb i drive) (leb at block) (ltb block (at + length blocks)) (λ b.
      let size : get_or (lengths drives) drive 0 ≡ length (get_or drives drive []) = length_at length drives drive [] in
      let same : length (get_or drives i []) ≡ length (get_or drives drive []) = ap (λ (j : ℕ). length (get_or drives j [])) ((Decides-eqb i drive).0 b) in
      let past : at + length blocks ≤ block = omega (arith, out, size, same, fits) in
      grind (arith, nat_tests))

  pub within_written : KeepsWithin (lengths drives) t → KeepsWithin (lengths drives) u
  within_written within drive block out =
      ap (λ (x : Tale). values x drive block) is
      ∙ values-wrote t i at blocks drive block
      ∙ cond-false (eqb i drive && leb at block && ltb block (at + length blocks)) _ _ (misses drive block out)
      ∙ within drive block out

  pub told_written : told u ≡ told t
  told_written = ap told is ∙ told-wrote t i at blocks

-- what a write leaves
pub record AfterWrite (disks after : List Disk) (t u : Tale) (call : Call) : Type 0 where
  pub tale : u ≡ Then t call
  pub sizes : lengths (latest_blocks after) ≡ lengths (latest_blocks disks)
  pub shows : ShowsLast (latest_blocks disks) t → ShowsLast (latest_blocks after) u
  pub within : ShowsLast (latest_blocks disks) t → KeepsWithin (lengths (latest_blocks disks)) t → KeepsWithin (lengths (latest_blocks after)) u
  pub tells : ShowsLast (latest_blocks disks) t → told u ≡ told t

-- drives in memory after a write: one of them holds the blocks, and the record has the call
module _ (disks : List Disk) (calls new : List MemCall) (before : ℕ) (bytes : List ℕ) (i at : ℕ) (c : MemCall) (blocks : List (List ℕ)) (d after : Disk)
    (range : InDrive (lengths (latest_blocks disks)) i at (length blocks)) (pushed : new ≡ calls ++ c ∷ []) (call : call_of c ≡ Wrote i at blocks)
    (was : d ≡ get_or disks i d) (starts : after.start.items ≡ d.start.items) (puts : Puts d.latest.items at blocks after.latest.items) where
  same_starts : start_blocks (set disks i after) ≡ start_blocks disks
  same_starts = map-set_same (λ (x : Disk). x.start.items) disks i after d (starts ∙ ap (λ (x : Disk). x.start.items) was)

  latest_set : set (latest_blocks disks) i after.latest.items ≡ latest_blocks (set disks i after)
  latest_set = sym (map-set (λ (x : Disk). x.latest.items) disks i after)

  disk_there : d.latest.items ≡ get_or (latest_blocks disks) i []
  disk_there = ap (λ (x : Disk). x.latest.items) was ∙ sym (get_or-map (λ (x : Disk). x.latest.items) disks i d [] (has_drive disks i at (length blocks) range d was))

  known : i < length (latest_blocks disks)
  known = omega (arith, range.known, length-map (latest_blocks disks) (λ (x : List (List ℕ)). length x))

  pub tale_written : tale_from (set disks i after) new before bytes ≡ Then (tale_from disks calls before bytes) (Wrote i at blocks)
  tale_written =
      ap (λ (drives : List (List (List ℕ))). continued (begun drives (take before bytes)) new) same_starts
      ∙ tale_from-push disks calls new c before bytes pushed
      ∙ ap (λ (x : Call). Then (tale_from disks calls before bytes) x) call

  fits_there : at + length blocks ≤ length (get_or (latest_blocks disks) i [])
  fits_there = omega (arith, range_fits disks i at (length blocks) range d was, ap (λ (l : List (List ℕ)). length l) disk_there)

  puts_there : Puts (get_or (latest_blocks disks) i []) at blocks after.latest.items
  puts_there = subst (λ (l : List (List ℕ)). Puts l at blocks after.latest.items) disk_there puts

  pub same_lengths : lengths (latest_blocks (set disks i after)) ≡ lengths (latest_blocks disks)
  same_lengths = ap lengths (sym latest_set) ∙ map-set_same length (latest_blocks disks) i after.latest.items [] (length-puts (get_or (latest_blocks disks) i []) at blocks after.latest.items puts_there fits_there)

  module _ (shows : ShowsLast (latest_blocks disks) (tale_from disks calls before bytes)) where
    pub disks_show : ShowsLast (latest_blocks (set disks i after)) (tale_from (set disks i after) new before bytes)
    disks_show = subst (λ (l : List (List (List ℕ))). ShowsLast l (tale_from (set disks i after) new before bytes)) latest_set
        (shows_written (latest_blocks disks) (tale_from disks calls before bytes) (tale_from (set disks i after) new before bytes) i at blocks after.latest.items tale_written shows known fits_there puts_there)

    pub disks_keep_within : KeepsWithin (lengths (latest_blocks disks)) (tale_from disks calls before bytes) → KeepsWithin (lengths (latest_blocks (set disks i after))) (tale_from (set disks i after) new before bytes)
    disks_keep_within within = subst (λ (l : List ℕ). KeepsWithin l (tale_from (set disks i after) new before bytes)) (sym same_lengths)
        (within_written (latest_blocks disks) (tale_from disks calls before bytes) (tale_from (set disks i after) new before bytes) i at blocks after.latest.items tale_written shows known fits_there puts_there within)

    pub disks_tell : told (tale_from (set disks i after) new before bytes) ≡ told (tale_from disks calls before bytes)
    disks_tell = told_written (latest_blocks disks) (tale_from disks calls before bytes) (tale_from (set disks i after) new before bytes) i at blocks after.latest.items tale_written shows known fits_there puts_there

  pub after_write : AfterWrite disks (set disks i after) (tale_from disks calls before bytes) (tale_from (set disks i after) new before bytes) (Wrote i at blocks)
  after_write = record { tale = tale_written; sizes = same_lengths; shows = disks_show; within = disks_keep_within; tells = disks_tell }

-- what a giving leaves
pub record AfterGive (drives : List (List (List ℕ))) (t u : Tale) (piece : List ℕ) : Type 0 where
  pub tale : u ≡ Then t (Gave piece (length piece))
  pub shows : ShowsLast drives t → ShowsLast drives u
  pub within : KeepsWithin (lengths drives) t → KeepsWithin (lengths drives) u
  pub tells : told u ≡ told t ++ piece

pub after_give : (disks : List Disk) (calls new : List MemCall) (before : ℕ) (bytes more : List ℕ) (c : MemCall) (piece : List ℕ)
    → before ≤ length bytes → new ≡ calls ++ c ∷ [] → call_of c ≡ Gave piece (length piece) → more ≡ bytes ++ piece
    → AfterGive (latest_blocks disks) (tale_from disks calls before bytes) (tale_from disks new before more) piece
after_give disks calls new before bytes more c piece early pushed call told_more =
    let front : take before more ≡ take before bytes = ap (λ (l : List ℕ). take before l) told_more ∙ take-append-le before bytes piece early in
    let is : tale_from disks new before more ≡ Then (tale_from disks calls before bytes) (Gave piece (length piece)) =
    ap (λ (l : List ℕ). continued (begun (start_blocks disks) l) new) front
    ∙ tale_from-push disks calls new c before bytes pushed
    ∙ ap (λ (x : Call). Then (tale_from disks calls before bytes) x) call in
    record {
      tale = is;
      shows = shows_given (latest_blocks disks) _ _ piece is;
      within = within_given (latest_blocks disks) _ _ piece is;
      tells = told_given (latest_blocks disks) _ _ piece is;
    }

-- one drive more takes what a read gives as its start
module _ (disks : List Disk) (i : ℕ) (d after : Disk) (lt : i < length disks) (is : d ≡ get_or disks i d) where
  pub settled_latest : after.latest.items ≡ d.latest.items → latest_blocks (set disks i after) ≡ latest_blocks disks
  settled_latest same = map-set_same (λ (x : Disk). x.latest.items) disks i after d (same ∙ ap (λ (x : Disk). x.latest.items) is)

  pub settled_more : (first : List Disk) → after.start.items ≡ d.latest.items → latest_blocks disks ≡ latest_blocks first → take i (start_blocks disks) ≡ take i (latest_blocks first)
      → take (i + 1) (start_blocks (set disks i after)) ≡ take (i + 1) (latest_blocks first)
  settled_more first same latest so_far =
      ap (λ (l : List (List (List ℕ))). take (i + 1) l) (map-set (λ (x : Disk). x.start.items) disks i after)
      ∙ take_more_set (start_blocks disks) i after.start.items (omega (arith, length-map disks (λ (x : Disk). x.start.items)))
      ∙ ap (λ (l : List (List (List ℕ))). l ++ after.start.items ∷ []) so_far
      ∙ ap (λ (x : List (List ℕ)). take i (latest_blocks first) ++ x ∷ [])
      (same ∙ ap (λ (x : Disk). x.latest.items) is ∙ sym (get_or-map (λ (x : Disk). x.latest.items) disks i d [] lt) ∙ ap (λ (l : List (List (List ℕ))). get_or l i []) latest)
      ∙ sym (take_more (latest_blocks first) i [] (omega (arith, length-map disks (λ (x : Disk). x.latest.items), ap (λ (l : List (List (List ℕ))). length l) latest)))
