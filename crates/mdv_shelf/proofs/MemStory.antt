-- What one more call does to the story that drives in memory tell.
use Rattle.std.proofs.Common.{◌≡◌, List, [], ◌∷◌, ◌++◌, map, reverse, Some, refl, ◌∙◌, ap}
use Rattle.std.proofs.lemmas.List.{map_push, reverse-append}
use Rattle.mdv_shelf.specs.Tale.{Tale, Then, Call}
use Rattle.mdv_shelf.specs.Story.{Tally, tally_by, Next, and_next, part_of}
use Rattle.mdv_shelf.specs.MemStory.{with_counts}
use Rattle.mdv_shelf.specs.MemShelf.{counts_of, tally_in, told_story, told_calls, told_blocks, fault_count, shelf_story, shelf_totals, history_story}
use Rattle.mdv_shelf.specs.declared.mem_shelf.counts.Counts.{Counts}
use Rattle.mdv_shelf.specs.declared.mem_shelf.counts.Totals.{Totals}
use Rattle.mdv_shelf.specs.declared.mem_shelf.Health.{Health}
use Rattle.mdv_shelf.specs.declared.mem_shelf.history.History.{History}
use Rattle.mdv_shelf.specs.declared.mem_shelf.MemShelf.{MemShelf}

-- the newest counts come first
newest_first : (counts : List Counts) (k : Counts) → reverse (map counts_of (counts ++ k ∷ [])) ≡ counts_of k ∷ reverse (map counts_of counts)
newest_first counts k = ap reverse (map_push counts_of counts k) ∙ reverse-append (map counts_of counts) (counts_of k ∷ [])

-- one more call, with its counts
pub noted_more : (t u : Tale) (c : Call) (counts new : List Counts) (k : Counts) (tally : Tally) → u ≡ Then t c → new ≡ counts ++ k ∷ [] → counts_of k ≡ tally
    → with_counts u (reverse (map counts_of new)) ≡ Next (with_counts t (reverse (map counts_of counts))) c tally
noted_more t u c counts new k tally tale pushed are =
    ap (λ (v : Tale). with_counts v (reverse (map counts_of new))) tale
    ∙ ap (λ (l : List Counts). with_counts (Then t c) (reverse (map counts_of l))) pushed
    ∙ ap (λ (l : List Tally). with_counts (Then t c) l) (newest_first counts k)
    ∙ ap (λ (n : Tally). Next (with_counts t (reverse (map counts_of counts))) c n) are

-- it is noted with the counts of the shelf, of which a slice was lent
pub noted_call : (old : MemShelf) (after : History) (c : Call) (lent : List Health) (totals : Totals) → lent ≡ old.health.items → totals ≡ shelf_totals old → history_story after ≡ Next (shelf_story old) c (tally_in lent totals)
    → (d : Call) × (part_of d ≡ part_of c) × (Some (history_story after) ≡ and_next (told_story old) d (tally_by fault_count told_calls told_blocks old))
noted_call old after c lent totals same all is = (
  c,
  refl,
  ap Some (is ∙ ap (λ (l : List Health). Next (shelf_story old) c (tally_in l totals)) same ∙ ap (λ (k : Totals). Next (shelf_story old) c (tally_in old.health.items k)) all),
)
