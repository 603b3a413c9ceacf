-- What a line led to, by a moment by which its whole reply was told.
use Rattle.std.proofs.Common.{◌≡◌, inl, inr, ℕ, List, ◌++◌, Some, refl, sym, ◌∙◌, ap, subst}
use Rattle.std.proofs.lemmas.List.{append_cancel_left}
use Rattle.mdv_base.specs.declared.refusal.Refusal.{Refusal}
use Rattle.mdv_engine.specs.Ends.{OnlyAnswers}
use Rattle.mdv_engine_law.specs.Answers.{IsSaid, refusing}
use Rattle.mdv_engine_law.specs.Commands.{CameTo, KeepsTab}
use Rattle.mdv_engine_law.specs.Line.{Ask, Nothing}
use Rattle.mdv_engine_law.specs.Replies.{refusal_line, text_of}
use Rattle.mdv_run.specs.Below.{Answer, Command, Host, IsLine, Kept, Memory, StaysHome, Tale, Turned, asked_by, kept_at, meant, told}
use Rattle.mdv_run.proofs.Answering.{no_boot}
use Rattle.mdv_run.proofs.Fronts.{LineLeads}
use Rattle.mdv_run_law.proofs.Entries.{came_command, came_tab, refused_entries}
use Rattle.mdv_run_law.proofs.Turning.{IsNoBoot, command_met, line_ran, nothing_met}
use Rattle.mdv_run_law.specs.Standing.{AsksBy, HasEntries}
use Rattle.mdv_shelf.specs.Failing.{Outcomes}
use Rattle.mdv_shelf.specs.Moments.{IsSince}
use Rattle.mdv_words.specs.Line as words

module _ (host : Host) (text : List ℕ) (old : Memory) (t m : Tale) (since : IsSince t m) (home : StaysHome host t m) where
  bytes_are : (ask : Ask) (new : Memory) (answer : Answer) → told m ≡ told t ++ text_of answer → (turned : Turned host ask old new t m) → turned.bytes ≡ text_of answer
  bytes_are ask new answer whole turned = append_cancel_left (told t) turned.bytes (text_of answer) (sym turned.is_told ∙ whole)

  pub command_led : (command : Command) → IsLine text (words.Exec command) → (calls : Outcomes) (answer : Answer) (next : Kept) → CameTo calls host (kept_at old t) (meant old.entries command) answer next → IsSaid answer → told m ≡ told t ++ text_of answer
      → Turned host (asked_by host command) old next.memory t m → LineLeads host text old next.memory t m
  command_led command is calls answer next came said whole turned = λ more.
      line_ran host text (asked_by host command) more old next.memory t m (command_met host command t) since turned home (inl (inr (words.Exec command, is, refl))) (inl (no_boot text (words.Exec command) is (λ same. cc (same))))
      (λ knows. came_command calls host (kept_at old t) next answer text turned.bytes command is came said)

  pub tab_led : (lines : List ℕ) → IsLine text (words.Tab lines) → (calls : Outcomes) (answer : Answer) (next : Kept) → KeepsTab calls (kept_at old t) lines answer next → IsSaid answer → told m ≡ told t ++ text_of answer → Turned host Nothing old next.memory t m → LineLeads host text old next.memory t m
  tab_led lines is calls answer next came said whole turned = λ more.
      line_ran host text Nothing more old next.memory t m (nothing_met host t) since turned home (inl (inr (words.Tab lines, is, refl))) (inl (no_boot text (words.Tab lines) is (λ same. cc (same))))
      (λ knows. came_tab calls (kept_at old t) next answer text turned.bytes lines is came (bytes_are Nothing next.memory answer whole turned))

  -- a line that was only refused
  pub refused_led : (r : Refusal) → ((bytes : List ℕ) → bytes ≡ refusal_line r → AsksBy host text bytes Nothing) → ((bytes : List ℕ) → bytes ≡ refusal_line r → IsNoBoot text bytes)
      → (calls : Outcomes) (answer : Answer) (next : Kept) → OnlyAnswers (refusing r) calls (kept_at old t) answer next → IsSaid answer → told m ≡ told t ++ text_of answer → Turned host Nothing old next.memory t m → LineLeads host text old next.memory t m
  refused_led r asks other calls answer next came said whole turned = λ more.
      let is : turned.bytes ≡ refusal_line r = bytes_are Nothing next.memory answer whole turned ∙ ap text_of came.1 in
      line_ran host text Nothing more old next.memory t m (nothing_met host t) since turned home (asks turned.bytes is) (other turned.bytes is)
      (λ knows. subst (λ (k : Kept). HasEntries text turned.bytes (Some old.entries) k.memory.entries) (sym came.2) (refused_entries text turned.bytes r old is))
