-- What may be left in a block of a drive on which no replica of the host's lies, and that no other host has: what it held when the drives were new, or what one of the host's lines may have put there.
use Rattle.std.proofs.Common.{◌≡◌, ◌⊎◌, ⊎_elim, inl, inr, ℕ, ◌+◌, ◌<◌, false, List, [], ◌∷◌, ◌++◌, length, slice_index_or, Some, None, refl, sym, ◌∙◌, ap, subst, append_assoc, arith}
use Rattle.std.proofs.lemmas.List.{append-nil}
use Rattle.mdv_dev.proofs.Copies.{has_copy, one_place}
use Rattle.mdv_engine_law.specs.Line.{Kept}
use Rattle.mdv_engine_law.specs.Replies.{text_of}
use Rattle.mdv_engine_law.specs.declared.answer.Answer.{Answer}
use Rattle.mdv_engine_law.specs.declared.host.Host.{Host}
use Rattle.mdv_map.specs.Maps.{HasDriveBlock}
use Rattle.mdv_name.specs.declared.geometry.Geometry.{Geometry}
use Rattle.mdv_port.specs.Script.{Script, at_end, line, spent, too_long}
use Rattle.mdv_run_law.specs.Lives.{MayBeFound, as_it_was, crashed, host_of}
use Rattle.mdv_run_law.specs.Run.{At, Counts, IsMereRefusal, IsNextFront, IsSaid, LinesTold, NextLine, NextWrites, Stretch, TextWrites, drive_failures, no_line, one_more}
use Rattle.mdv_run_law.specs.Told.{WorkWrites}
use Rattle.mdv_run_law.proofs.Course.{answer_plain}
use Rattle.mdv_run_law.proofs.Placing.{off_or_there}
use Rattle.mdv_shelf.specs.Area.{IsKept, KeptOutside, nowhere}
use Rattle.mdv_shelf.specs.Everywhere.{Image}
use Rattle.mdv_shelf.specs.Moments.{IsSince}
use Rattle.mdv_shelf.specs.Story.{Moment, Story, tale_of}
use Rattle.mdv_shelf.specs.Tale.{MayLeave, Tale}
use Rattle.mdv_shown.specs.Site.{site_area}
use Rattle.mdv_config.specs.Slices.{IsSound}
use Rattle.mdv_volumes.specs.History.{History}
use Rattle.mdv_words.specs.Line.{blocks_of}
use Rattle.mdv_theorem.specs.Exchanges.{Exchange, MayBeWritten, MayHaveBegun, exchanges, exchanges_of}
use Rattle.mdv_theorem.specs.Words.{HeldOrWasPut, MayBePut, MayLieAt}
use Rattle.mdv_theorem.proofs.Agreeing.{own_sound}
use Rattle.mdv_theorem.proofs.Come.{HasMetNothing}
use Rattle.mdv_theorem.proofs.Fronts.{IsWhole, none_or_all}
use Rattle.mdv_theorem.proofs.Having.{HasCome}
use Rattle.mdv_theorem.proofs.Leaving.{begun_or_quiet}
use Rattle.mdv_theorem.proofs.Left.{lines_here, script_plain}
use Rattle.mdv_theorem.proofs.Lined.{said_of}
use Rattle.mdv_theorem.proofs.Onward.{IsSoAt, line_on}
use Rattle.mdv_theorem.proofs.Place.{block_at}
use Rattle.mdv_theorem.proofs.Steps.{Between, known_at}
use Rattle.mdv_theorem.proofs.Sure.{IsSure, since_last, sure_table}
use Rattle.mdv_theorem.proofs.Tabled.{SaysNothing, come_goes, open_lies}
use Rattle.mdv_theorem.proofs.Tables.{WroteThere, text_kept}

module _ (drives : Geometry) (name : List ℕ) (made : Image) (drive block : ℕ) where
  -- each value that may be left there was held at first, or put there by one of these lines
  abbrev pub AreHeld : List Exchange → Tale → Type 0
  AreHeld lines t = (x : List ℕ) → MayLeave t drive block x → HeldOrWasPut drives name made lines drive block x

  put_longer : (lines more : List Exchange) (x : List ℕ) → MayBePut drives name lines drive block x → MayBePut drives name (lines ++ more) drive block x
  put_longer lines more x put = record {
    one = put.one;
    before = put.before;
    behind = put.behind ++ more;
    parts = ap (λ (l : List Exchange). l ++ more) put.parts ∙ append_assoc put.before (put.one ∷ put.behind) more;
    volume = put.volume;
    number = put.number;
    at = put.at;
    written = put.written;
  }

  -- with more lines
  pub held_more : (lines more : List Exchange) (t : Tale) → AreHeld lines t → AreHeld (lines ++ more) t
  held_more lines more t held x may = ⊎_elim (λ first. inl first) (λ put. inr (put_longer lines more x put)) (held x may)

  -- of a block that is kept
  pub held_kept : (lines more : List Exchange) (t u : Tale) → IsKept t u drive block → AreHeld lines t → AreHeld (lines ++ more) u
  held_kept lines more t u kept held x may = held_more lines more t held x (kept.left x may)

  -- and of what is found of a moment
  pub held_found : (lines : List Exchange) (m next : Tale) → MayBeFound m next → AreHeld lines m → AreHeld lines next
  held_found lines m next as_it_was held x may = held x may
  held_found lines m next (crashed found left) held x may = held x (left drive block x may)

  module _ (sound : IsSound drives) (out : site_area (host_of drives name 0).site drive block ≡ false) (fresh : ℕ) where
    abbrev host : Host
    host = host_of drives name fresh

    -- A line that may have begun what it asks, behind lines that may have made the open table.
    module _ (lines : List Exchange) (at : Between host) (come : HasCome drives name lines at.sure.history) (one : Exchange) (t u : Tale) (held : AreHeld lines t) where
      abbrev with_it : List Exchange
      with_it = lines ++ one ∷ []

      -- it wrote blocks of a volume of that table
      put_held : MayHaveBegun one → WroteThere host at.kept.memory one.text t u → AreHeld with_it u
      put_held begun wrote = elim (off_or_there wrote.map wrote.at (length (blocks_of wrote.what)) drive block) [
        | inl off ↦ held_kept lines (one ∷ []) t u (wrote.put.outside drive block off) held
        | inr (k, below, has) ↦
            let there = wrote.there in
            let bound = there.within in
            let number = wrote.at + k in
            let within : number < wrote.map.blocks = omega (arith, below, bound) in
            let place = block_at host.drives (own_sound drives name fresh sound) there.o.table (sure_table host at.kept there.o at.sure there.opened) wrote.volume wrote.map number there.lies within in
            let same = one_place wrote.map number place.drive place.block place.lies drive block has in
            let lies : HasDriveBlock (wrote.map.copies number) drive block = subst (λ (d : ℕ). HasDriveBlock (wrote.map.copies number) d block) (sym same.0)
            (subst (λ (b : ℕ). HasDriveBlock (wrote.map.copies number) place.drive b) (sym same.1) (has_copy wrote.map number place.drive place.block place.lies)) in
            let at_it : MayLieAt drives name lines wrote.volume number drive block = record { map = wrote.map; may = open_lies drives name fresh lines at there.o there.opened come wrote.volume wrote.map there.lies; within = within; lies = lies } in
            let new = slice_index_or (blocks_of wrote.what) k [] in
            let may : MayBeWritten wrote.volume number new one = record { writes = record { at = wrote.at; what = wrote.what; asks = wrote.spelled; place = k; within = below; numbered = refl; value = refl }; begun = begun } in
            let put : MayBePut drives name with_it drive block new = record { one = one; before = lines; behind = []; parts = refl; volume = wrote.volume; number = number; at = at_it; written = may } in
            λ x left. ⊎_elim (λ old. held_more lines (one ∷ []) t held x old) (λ is. inr (subst (MayBePut drives name with_it drive block) (sym is) put)) ((wrote.put.inside k drive block below has).left x left)
      ]

      pub text_held : MayHaveBegun one → TextWrites host at.kept.memory one.text t u → AreHeld with_it u
      text_held begun writes = elim (text_kept host refl at.kept at.sure one.text t u drive block out writes) [
        | inl kept ↦ held_kept lines (one ∷ []) t u kept held
        | inr wrote ↦ put_held begun wrote
      ]

    module _ (lines : List Exchange) (at : Between host) (come : HasCome drives name lines at.sure.history) where
      -- the next line of a script, which was answered
      script_held : (t u : Tale) → AreHeld lines t → (now later : Counts) (next : Kept) (script more : Script) (answer : Answer) → NextLine host now at.kept script answer later next more → IsSaid answer → NextWrites host at.kept.memory script t u
          → (IsMereRefusal answer → KeptOutside nowhere t u) → AreHeld (lines ++ said_of script (text_of answer)) u
      script_held t u held now later next at_end more answer is said wrote quiet = absurd is
      script_held t u held now later next (spent rows limit) more answer is said wrote quiet = absurd is
      script_held t u held now later next (too_long left) more answer is said wrote quiet = held_kept lines [] t u (wrote drive block refl) held
      script_held t u held now later next (line text left) more answer is said wrote quiet =
          let one : Exchange = record { text = text; reply = Some (text_of answer) } in
          elim (begun_or_quiet one answer (answer_plain (drive_failures now later) host at.kept next answer text is.2) said refl) [
            | inl begun ↦ text_held lines at come one t u held begun wrote
            | inr none ↦ held_kept lines (one ∷ []) t u (quiet none drive block refl) held
          ]

      -- The line in work, of which nothing was told, or the whole reply.
      module _ (t m : Tale) (held : AreHeld lines t) (text : List ℕ) (left : Script) (writes : TextWrites host at.kept.memory text t m) where
        untold_held : AreHeld (lines ++ exchanges (line text left) []) m
        untold_held = text_held lines at come (record { text = text; reply = None }) t m held (λ refusal told. absurd (cc told)) writes

        told_held : (reply : List ℕ) → MayHaveBegun (record { text = text; reply = Some reply }) → AreHeld (lines ++ exchanges (line text left) (reply ∷ [])) m
        told_held reply begun =
            let one : Exchange = record { text = text; reply = Some reply } in
            let here = text_held lines at come one t m held begun writes in
            subst (λ (l : List Exchange). AreHeld l m) (append_assoc lines (one ∷ []) (exchanges left [])) (held_more (lines ++ one ∷ []) (exchanges left []) m here)

    module _ (lines : List Exchange) (at : At) (story : Story) (is : at.story ≡ Some story) (sure : IsSure host at.kept) (come : HasCome drives name lines sure.history) (m : Moment) (rest : List ℕ) (front : IsNextFront host at rest m) (held : AreHeld lines (tale_of story)) where
      abbrev place : Between host
      place = record { kept = at.kept; sure = sure }

      abbrev Held : Type 0
      Held = AreHeld (lines ++ exchanges_of at.script rest) m.tale

      by_text : (text : List ℕ) (left : Script) → at.script ≡ line text left → TextWrites host at.kept.memory text (tale_of story) m.tale → Held
      by_text text left same writes = elim (none_or_all host at rest m front) [
        | inl nothing ↦
            subst (λ (l : List Exchange). AreHeld (lines ++ l) m.tale) (sym (λ i. exchanges (same i) (nothing i))) (untold_held lines place come (tale_of story) m.tale held text left writes)
        | inr w ↦ whole w
      ] where
        whole : IsWhole host at rest m → Held
        whole w =
            let reply = text_of w.front.answer in
            let one : Exchange = record { text = text; reply = Some reply } in
            elim (begun_or_quiet one w.front.answer (script_plain host at.counts w.front.later at.kept w.front.next at.script w.front.more w.front.answer w.front.comes) w.said refl) [
              | inl begun ↦ subst (λ (l : List Exchange). AreHeld (lines ++ l) m.tale) (sym (λ i. exchanges (same i) (w.alone i))) (told_held lines place come (tale_of story) m.tale held text left writes reply begun)
              | inr none ↦ held_kept lines (exchanges_of at.script rest) (tale_of story) m.tale (w.front.unwritten w.whole none story is drive block refl) held
            ]

      pub work_held : WorkWrites host at.kept.memory at.script (tale_of story) m.tale → Held
      work_held (inl kept) = held_kept lines (exchanges_of at.script rest) (tale_of story) m.tale (kept drive block refl) held
      work_held (inr (text, left, same, spelled, asks, wrote)) = by_text text left same (inr (spelled, asks, wrote))

    -- Over lines that were told, one behind the other.
    module _ (script : Script) (h : History) (t m : Tale) (none : HasMetNothing host script h t m) (stretch : Stretch) where
      abbrev IsSo : List Exchange → At → Type 0
      IsSo lines at = IsSoAt drives name SaysNothing (HasCome drives name) (come_goes drives name) fresh script h t m none stretch lines at

      -- so it is at a place between two lines
      pub record HeldAt (lines : List Exchange) (at : At) : Type 0 where
        pub so : IsSo lines at
        pub held : AreHeld lines (tale_of so.sure.story)

      pub lines_held : (n : ℕ) (now last : At) (left : List ℕ) (these : LinesTold host stretch n now left last) → ((u : Story) → last.story ≡ Some u → IsSince (tale_of u) m) → (lines : List Exchange) → HeldAt lines now → HeldAt (lines ++ lines_here host stretch n now last left these) last
      lines_held n now last left (no_line bytes at) since lines is = subst (λ (l : List Exchange). HeldAt l at) (sym (append-nil lines)) is
      lines_held n now last left (one_more bytes at mid end piece behind some line_told shown more) since lines is =
          let here = said_of now.script (text_of line_told.answer) in
          let rest = lines_here host stretch (n + length piece) mid last behind more in
          let first = is.so.sure in
          let so = line_on drives name SaysNothing (HasCome drives name) (come_goes drives name) fresh script h t m none stretch now mid piece line_told (λ v story. since_last host stretch (n + length piece) mid last behind m more since v story) lines tt is.so in
          let next = so.sure in
          let between : Between host = record { kept = now.kept; sure = known_at host script h t now first } in
          let held : AreHeld (lines ++ here) (tale_of next.story) =
          script_held lines between is.so.is (tale_of first.story) (tale_of next.story) is.held now.counts mid.counts mid.kept now.script mid.script line_told.answer line_told.comes line_told.said
          (line_told.writes first.story next.story first.is next.is) (λ quiet. line_told.unwritten (inl quiet) first.story next.story first.is next.is) in
          subst (λ (l : List Exchange). HeldAt l last) (append_assoc lines here rest) (lines_held (n + length piece) mid last behind more since (lines ++ here) (record { so = so; held = held }))
