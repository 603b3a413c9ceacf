-- No run of a life ends because fewer than half of its places are active, where lines of it, or of earlier runs, made the database, and half of the slices, or more, on which its replicas may lie by them are on drives on which no call fails.
use Rattle.std.proofs.Common.{List, ◌++◌, Contains, refl, sym, subst}
use Rattle.std.proofs.lemmas.List.Elements.{Contains-append_left}
use Rattle.mdv_run_law.specs.Lives.{host_of}
use Rattle.mdv_shelf.specs.Story.{tale_of}
use Rattle.mdv_volumes.specs.History.{history_after_all}
use Rattle.mdv_volumes.specs.HistoryLaws.{new_history}
use Rattle.mdv_theorem.specs.Exchanges.{Exchange, exchanges_by, exchanges_of}
use Rattle.mdv_theorem.specs.Observed.{RunsKeepEnough}
use Rattle.mdv_theorem.specs.Words.{IsMadeOn, spread}
use Rattle.mdv_theorem.proofs.Founded.{lines_sure, made_behind}
use Rattle.mdv_theorem.proofs.Parting.{Parts, in_first, in_second, parts}
use Rattle.mdv_theorem.proofs.Stayed.{clean_of, history_there, is_host, lived, new_word, owned, stayed}
use Rattle.mdv_theorem.proofs.Refused.{AreRefused}
use Rattle.mdv_theorem.proofs.Unmade.{place_closed}
use Rattle.mdv_theorem.proofs.Within.{within_never}

pub runs_keep_enough : RunsKeepEnough
runs_keep_enough drives name made before fresh script stretch start close s of_table old each tale end_status whole is_made enough active listed panic =
    by (parts (exchanges_by name before) (exchanges_of script whole.more) is_made.before is_made.behind is_made.made is_made.parts)
  where
    by : Parts (exchanges_by name before) (exchanges_of script whole.more) is_made.before is_made.behind is_made.made → ⊥
    by (in_first since earlier behind) =
        let life = lived drives name of_table made before fresh script stretch start close s old each in
        let its : IsMadeOn (exchanges_by name before) = record {
          slices = is_made.slices;
          count = is_made.count;
          made = is_made.made;
          before = is_made.before;
          behind = since;
          parts = earlier;
          by = is_made.by;
          stays = λ one has. is_made.stays one (subst (λ (l : List Exchange). Contains l one) (sym behind) (Contains-append_left since (exchanges_of script whole.more) one has));
        } in
        stayed drives name of_table made before fresh script stretch start close s old each (spread is_made.count is_made.slices) since (made_behind drives name of_table made before (tale_of s) life (exchanges_by name before) its refl)
        whole.more is_made refl behind enough end_status whole.last whole.runs active listed panic
    by (in_second until first made_is) =
        let life = lived drives name of_table made before fresh script stretch start close s old each in
        let history = history_there drives name of_table made before fresh script stretch start close s old each in
        within_never drives name fresh script (history_after_all new_history history.es) (is_host drives name of_table made before fresh script stretch start close s old each) stretch start close s old history.stands
        (owned drives name of_table made before fresh script stretch start close s old each history) (clean_of drives name of_table made before fresh script stretch start close s old each history) whole.more until is_made.behind is_made.made made_is
        is_made.slices is_made.by.force is_made.count is_made.by.blocks is_made.by.asks is_made.by.told
        (λ m none n one place front upto since here_is up sure. (
          lines_sure (host_of drives name fresh) script (history_after_all new_history history.es) (tale_of s) m none stretch n one place front upto since sure,
          place_closed drives name of_table made before fresh stretch (tale_of s) life (new_word drives name of_table made before fresh script stretch start close s old each) n one place front upto sure.story sure.is (up sure.story sure.is).0
              (subst (λ (l : List Exchange). AreRefused (exchanges_by name before ++ l)) (sym here_is) (subst AreRefused first is_made.by.first)),
        )) is_made.stays enough end_status whole.last whole.runs active listed panic
