-- A run of a life, as it is stopped at a point of its story: one more run of the life.
use Rattle.std.proofs.Common.{◌≡◌, ℕ, List, [], ◌∷◌, ◌++◌, Some, if◌then◌else◌, Contains, refl, sym, ◌∙◌, ap, subst}
use Rattle.std.proofs.lemmas.Slice.Eq.{bytes_eq-Decides}
use Rattle.mdv_name.specs.declared.geometry.Geometry.{Geometry}
use Rattle.mdv_port.specs.Script.{Script}
use Rattle.mdv_run_law.proofs.Living.{lives_stand}
use Rattle.mdv_run_law.specs.Lives.{IsHistoryOf, Ran, as_it_was, host_of}
use Rattle.mdv_run_law.specs.Run.{Counts, Stretch}
use Rattle.mdv_shelf.proofs.Stories.{marked_more, same_marks}
use Rattle.mdv_shelf.specs.Everywhere.{Image}
use Rattle.mdv_shelf.specs.Story.{AtEach, AtMarks, Mark, Moment, Story, Tally, marked, moment_at, tale_of}
use Rattle.mdv_shelf.specs.Tale.{Tale, told}
use Rattle.mdv_config.specs.Slices.{IsSound}
use Rattle.mdv_theorem.specs.Exchanges.{Exchange, exchanges_by, exchanges_of}
use Rattle.mdv_theorem.specs.Running.{Lived, LivesOn, ran_now}
use Rattle.mdv_theorem.specs.Words.{IsMadeOn, spread}
use Rattle.mdv_theorem.proofs.Agreeing.{own_sound}
use Rattle.mdv_theorem.proofs.Booted.{at_prefix}
use Rattle.mdv_theorem.proofs.Founded.{made_behind}
use Rattle.mdv_theorem.proofs.Lain.{LieBehind}
use Rattle.mdv_theorem.proofs.Living.{lived_life}

-- The marks of a point are the first ones of a story that goes on from there.
pub same_front : (stretch : Stretch) (s u : Story) (marks back front : List Mark) → stretch.new ≡ Some u → u ≡ marked s marks → stretch.new ≡ Some (marked (marked s front) back) → marks ≡ back ++ front
same_front stretch s u marks back front new led goes_on =
    let both : Some u ≡ Some (marked (marked s front) back) = sym new ∙ goes_on in
    let same : u ≡ marked (marked s front) back = cc (both) in
    same_marks s marks (back ++ front) (sym led ∙ same ∙ marked_more s front back)

-- These runs, and this one with what it had told there, led to what the drives are there.
pub record IsStopped (drives : Geometry) (name : List ℕ) (made : Image) (before : List Ran) (fresh : ℕ) (script : Script) (start front : Tale) : Type 0 where
  pub ran : List Ran
  pub lived : Lived drives made ran front
  pub sound : IsSound (host_of drives name fresh).drives
  pub history : IsHistoryOf drives name made ran front
  pub bytes : List ℕ
  pub is_told : told front ≡ told start ++ bytes
  pub lines : exchanges_by name ran ≡ exchanges_by name before ++ exchanges_of script bytes

module _ (drives : Geometry) (name : List ℕ) (made : Image) (before : List Ran) (fresh : ℕ) (script : Script) (of_table : Contains drives.hosts name) where
  pub stopped : (stretch : Stretch) (start : Counts) (s : Story) → stretch.old ≡ Some s → AtEach (LivesOn drives name made before fresh script stretch start) stretch.old stretch.before stretch.new stretch.after
      → (marks back : List Mark) → stretch.new ≡ Some (marked (marked s marks) back) → IsStopped drives name made before fresh script (tale_of s) (tale_of (marked s marks))
  stopped stretch start s old each front back goes_on = record {
    ran = ran;
    lived = lived;
    sound = own_sound drives name fresh lived.fair;
    history = lives_stand drives name made ran (tale_of (marked s front)) of_table (lived_life drives made ran (tale_of (marked s front)) lived);
    bytes = lives.1.run.tells.bytes;
    is_told = sym (ap (λ (m : Moment). told m.tale) lives.1.now) ∙ lives.1.run.tells.is_told ∙ ap (λ (m : Moment). told m.tale ++ lives.1.run.tells.bytes) lives.1.started;
    lines = ap (λ (same : _). exchanges_by name before ++ (if same then exchanges_of script lives.1.run.tells.bytes else [])) ((bytes_eq-Decides name name).1 refl);
  }
    where
      Says : Moment → Type 0
      Says m = LivesOn drives name made before fresh script stretch start (moment_at (tale_of s) stretch.before) m

      lives : (tally : Tally) × Says (moment_at (tale_of (marked s front)) tally)
      lives =
          let all = each s old in
          let marks = same_front stretch s all.0 all.2.marks back front all.1 all.2.led goes_on in
          at_prefix Says s stretch.before back front all.2.first (subst (λ (ms : List Mark). AtMarks Says s ms) marks all.2.each)

      ran : List Ran
      ran = ran_now lives.1.run ∷ before

      lived : Lived drives made ran (tale_of (marked s front))
      lived = lives.1.lived (tale_of (marked s front)) as_it_was

  -- where such lines made the database, the lists that a boot may find lie on slices that they may have come to since
  pub lie_there : (start front : Tale) (is : IsStopped drives name made before fresh script start front) (lines : List Exchange) (is_made : IsMadeOn lines) → exchanges_by name is.ran ≡ lines
      → LieBehind drives name of_table made (spread is_made.count is_made.slices) is_made.behind is.ran front
  lie_there start front is lines is_made same = made_behind drives name of_table made is.ran front is.lived lines is_made same
