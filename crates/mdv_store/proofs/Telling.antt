-- A change that made the newest table may be told once that one's write was answered.
use Rattle.std.proofs.Common.{◌≡◌, List, [], ◌∷◌, true, Option, Some, None, refl, subst, ap, Contains}
use Rattle.mdv_store_law.specs.Log.{IsDescended, IsLog, IsNewestTellable, IsUntold, Version, Writing, Written, answered, log_after, log_after_all}
use Rattle.mdv_store_law.proofs.Families.{extends_more, newest_extends}
use Rattle.mdv_store.specs.Below.{Change, Geometry, IsNewest, Log, Mark, Table}
use Rattle.mdv_store.specs.Commit.{IsNewestWritten}

-- what was told the newest version has
untold_newest : (g : Geometry) (log : Log) (mark : Mark) (table : Table) (n : IsNewest log mark table) → IsLog g log → (acknowledged : Option (List Change)) → log.acknowledged ≡ acknowledged → IsUntold acknowledged n.version.changes
untold_newest g log mark table n is None same = tt
untold_newest g log mark table n is (Some told) same =
    let held = is.held told same in
    let descended = subst IsDescended n.family is.descended in
    let one_of = subst (λ (f : List Version). Contains f held.by) n.family held.one_of in
    extends_more n.version.changes held.by.changes told (newest_extends n.version held.by n.older descended one_of held.written) held.has

pub newest_tellable : (g : Geometry) (log : Log) (mark : Mark) (table : Table) (n : IsNewest log mark table) (next : Mark) (change : Change) (made : Table) → IsLog g log
    → IsNewestTellable (log_after_all log (Writing next (Some change) n.version.changes made ∷ Written ∷ [])) (Some change)
newest_tellable g log mark table n next change made is = record {
  before = n.version.changes;
  may = record {
    lives = refl;
    newest = record { mark = next; table = made; changes = change ∷ n.version.changes; is_written = true };
    older = log.family;
    family = refl;
    written = refl;
    later = [];
    changes = refl;
    creation = λ none. absurd (cc (none));
    untold = untold_newest g log mark table n is log.acknowledged refl;
  };
  newest = refl;
}

-- It is the newest one, and its write was answered.
pub newest_written : (log : Log) (mark : Mark) (table : Table) → IsNewest log mark table → IsNewestWritten (log_after log Written) mark table
newest_written log mark table n = record {
  newest = record { version = record n.version { is_written = true }; older = n.older; family = ap answered n.family; marked = n.marked; same = n.same };
  written = refl;
}
