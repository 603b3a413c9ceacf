-- A deed is told: the worlds of a log are those of the log behind it.
use Rattle.std.proofs.Common.{◌≡◌, ⊎_elim, inl, inr, List, [], ◌∷◌, Contains, sym, subst, ap, ◌∙◌}
use Rattle.std.proofs.lemmas.List.Elements.{All-contains}
use Rattle.mdv_standing.specs.Matching.{Matches}
use Rattle.mdv_standing.specs.Worlds.{IsWorld}
use Rattle.mdv_standing.proofs.Holding.{rest_of}
use Rattle.mdv_store_law.specs.Log.{AreMade, Event as LogEvent, Extends, IsDescended, IsHeld, IsLog, MayHappen, Told, Version, log_after}
use Rattle.mdv_store_law.proofs.Families.{extends_more, newest_extends}
use Rattle.mdv_standing.specs.Turning.{IsNewest}
use Rattle.mdv_store.proofs.Sitting.{contains_first}
use Rattle.mdv_shown.specs.declared.site.Site.{Site}
use Rattle.mdv_store.specs.Commit.{IsNewestWritten}
use Rattle.mdv_databases.specs.Below.{Change, Core, CoversWith, Database, Geometry, Identity, Image, IsReadyWith, Key, Log, Opened, Spells, Tale, log_of, site_of, spots_of, with_event}
use Rattle.mdv_databases.specs.Going.{HasAllTold, IsCurrentOf, IsOpenIn}
use Rattle.mdv_databases.specs.Standing.{AreAnew, Stand}
use Rattle.mdv_databases.proofs.Going.{anew_behind, its_log, its_worlds, stand_behind}
use Rattle.mdv_databases.proofs.Lists.{events_its, events_log}

module _ (which before : List Change) where
  abbrev told : LogEvent
  told = Told which before

  matches_told : (site : Site) (log : Log) (w : Core) → Matches site log w → Matches site (log_after log told) w
  matches_told site log w m = record {
    kind = m.kind;
    book = m.book;
    as_many = m.as_many;
    each = m.each;
    answered = m.answered;
    dropped = λ p i since. (let by = m.dropped p i since in record { known = by.known; lacks = by.lacks; by = by.by });
    steady = m.steady;
    reused = m.reused;
    there = m.there;
    gone = m.gone;
  }

  world_told : (g : Geometry) (site : Site) (identity : Identity) (log : Log) (w : Core) (image : Image) → IsWorld (Spells g) site identity log w image → IsWorld (Spells g) site identity (log_after log told) w image
  world_told g site identity log w image is = record { reached = is.reached; matches = matches_told site log w is.matches; shows = is.shows; listed = ⊎_elim (λ have. inl (λ v place one_of found listed. have v place one_of found listed)) (λ none. inr none) is.listed }

  module _ (g : Geometry) (all : List Database) (key : Key) (m : Tale) where
    pub told_stand : (identity : Identity) → Stand g all m → IsCurrentOf all key identity → MayHappen g (log_of all key) told → Stand g (with_event key told all) m
    told_stand identity stand its may =
        stand_behind g all key identity m stand its (told ∷ []) m (may, tt) (rest_of (Spells g) g all m identity stand.worlds) (λ ask other another blank. blank)
        (λ image is. (let one = its_worlds g all key identity m stand its image is in (one.0, world_told g (site_of g key) identity (log_of all key) one.0 image one.1)))

    pub told_anew : (identity : Identity) → Stand g all m → IsCurrentOf all key identity → MayHappen g (log_of all key) told → AreAnew all → AreAnew (with_event key told all)
    told_anew identity stand its may anew = anew_behind g all key identity m stand its (told ∷ []) anew (may, tt) (tt, tt)

  newest_told : (log : Log) (o : Opened) → IsNewestWritten log o.mark o.table → IsNewestWritten (log_after log told) o.mark o.table
  newest_told log o is = (let n = is.newest in record { newest = record { version = n.version; older = n.older; family = n.family; marked = n.marked; same = n.same }; written = is.written })

  pub told_open : (g : Geometry) (all : List Database) (o : Opened) (m : Tale) → IsOpenIn g o all m → IsOpenIn g o (with_event o.key told all) m
  told_open g all o m is =
      let next = with_event o.key told all in
      let same : log_of next o.key ≡ log_after (log_of all o.key) told = events_log o.key (told ∷ []) all is.its.database is.its.current in
      record {
        its = events_its o.key (told ∷ []) all o.identity is.its;
        lives = ap (λ (l : Log). l.fate) same ∙ is.lives;
        newest = subst (λ (l : Log). IsNewestWritten l o.mark o.table) (sym same) (newest_told (log_of all o.key) o is.newest);
        ready = subst (λ (l : Log). CoversWith (Spells g) (site_of g o.key) o.identity (λ image w. IsReadyWith (spots_of o.seats) w) l m) (sym same)
            (λ image at. (let one = is.ready image at in (one.0, world_told g (site_of g o.key) o.identity (log_of all o.key) one.0 image one.1, one.2)));
        opened = is.opened;
      }

-- what is open has every change that was told: its newest table has those of each one that was answered
module _ (g : Geometry) (all : List Database) (o : Opened) (t : Tale) (stand : Stand g all t) (is : IsOpenIn g o all t) where
  abbrev n : IsNewest (log_of all o.key) o.mark o.table
  n = is.newest.newest

  log_is : IsLog g (log_of all o.key)
  log_is = its_log g all o.key o.identity t stand is.its

  has_held : (told : List Change) → IsHeld (log_of all o.key).family told → Extends n.version.changes told
  has_held told held =
      extends_more n.version.changes held.by.changes told
      (newest_extends n.version held.by n.older (subst IsDescended n.family log_is.descended) (subst (λ (vs : List Version). Contains vs held.by) n.family held.one_of) held.written) held.has

  pub has_all_told : HasAllTold g o (log_of all o.key)
  has_all_told = record {
    changes = n.version.changes;
    made = subst (AreMade g n.version.changes) n.same
        (All-contains (λ (v : Version). AreMade g v.changes v.table) (log_of all o.key).family n.version log_is.made (subst (λ (vs : List Version). Contains vs n.version) (sym n.family) (contains_first n.version n.older)));
    told = λ told ack. has_held told (log_is.held told ack);
  }
