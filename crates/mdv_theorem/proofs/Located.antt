-- Where a line stands among those that were told.
use Rattle.std.proofs.Common.{◌≡◌, ℕ, ◌+◌, ◌<◌, List, [], ◌∷◌, ◌++◌, length, Some, Contains, refl, sym, ◌∙◌, ap, subst}
use Rattle.mdv_engine_law.specs.Replies.{text_of}
use Rattle.mdv_engine_law.specs.declared.host.Host.{Host}
use Rattle.mdv_port.specs.Script.{Script, at_end, line, spent, too_long}
use Rattle.mdv_run_law.specs.Run.{At, IsShown, LineTold, LinesTold, Stretch, no_line, one_more}
use Rattle.mdv_theorem.specs.Exchanges.{Exchange, IsTold}
use Rattle.mdv_theorem.proofs.Left.{lines_here}
use Rattle.mdv_theorem.proofs.Lined.{said_of}
use Rattle.mdv_theorem.proofs.Lines.{never_in}
use Rattle.mdv_theorem.proofs.Parting.{Parts, cut_has, in_first, in_second, parts}

-- of a line one exchange is told, so nothing stands before it or behind
said_alone : (script : Script) (reply : List ℕ) (until rest : List Exchange) (one : Exchange) → said_of script reply ≡ until ++ one ∷ rest → (until ≡ []) × (rest ≡ [])
said_alone at_end reply until rest one is = absurd (never_in one (subst (λ (l : List Exchange). Contains l one) (sym is) (cut_has until rest one)))
said_alone (spent rows limit) reply until rest one is = absurd (never_in one (subst (λ (l : List Exchange). Contains l one) (sym is) (cut_has until rest one)))
said_alone (too_long more) reply until rest one is = absurd (never_in one (subst (λ (l : List Exchange). Contains l one) (sym is) (cut_has until rest one)))
said_alone (line text more) reply [] rest one is = (refl, (let none : [] ≡ rest = cc (is) in sym none))
said_alone (line text more) reply (x ∷ until) rest one is =
    let none : [] ≡ until ++ one ∷ rest = cc (is) in
    absurd (never_in one (subst (λ (l : List Exchange). Contains l one) (sym none) (cut_has until rest one)))

-- the line with its text, and its reply
pub said_line : (script : Script) (reply : List ℕ) (one : Exchange) → said_of script reply ≡ one ∷ [] → (left : Script) × (script ≡ line one.text left) × IsTold one reply
said_line at_end reply one is = absurd (cc (is))
said_line (spent rows limit) reply one is = absurd (cc (is))
said_line (too_long more) reply one is = absurd (cc (is))
said_line (line text more) reply one is =
    let same : ◌≡◌ {A = Exchange} (record { text = text; reply = Some reply }) one = cc (is) in
    (more, ap (λ (e : Exchange). line e.text more) same, sym (ap (λ (e : Exchange). e.reply) same))

module _ (host : Host) (stretch : Stretch) where
  -- the place before the line, and the one behind it
  pub record LineAt (n : ℕ) (now last : At) (until : List Exchange) (one : Exchange) (behind : List Exchange) : Type 1 where
    pub before : List ℕ
    pub place : At
    pub upto : LinesTold host stretch n now before place
    pub mid : At
    pub piece : List ℕ
    pub line_told : LineTold host place piece mid
    pub k : ℕ
    pub left : List ℕ
    pub after : LinesTold host stretch k mid left last
    pub j : ℕ
    pub from : LinesTold host stretch j place (piece ++ left) last
    pub until_is : lines_here host stretch n now place before upto ≡ until
    pub said : said_of place.script (text_of line_told.answer) ≡ one ∷ []
    pub behind_is : lines_here host stretch k mid last left after ≡ behind

  -- it is the first of these lines, or stands among those behind it
  module _ (n : ℕ) (now mid last : At) (piece left : List ℕ) (some : 0 < length piece) (line_told : LineTold host now piece mid) (shown : IsShown stretch n (length piece) mid) (more : LinesTold host stretch (n + length piece) mid left last) (until : List Exchange) (one : Exchange) (behind : List Exchange) where
    abbrev said : List Exchange
    said = said_of now.script (text_of line_told.answer)

    abbrev rest : List Exchange
    rest = lines_here host stretch (n + length piece) mid last left more

    first_at : (r : List Exchange) → said ≡ until ++ one ∷ r → behind ≡ r ++ rest → LineAt n now last until one behind
    first_at r first others =
        let alone = said_alone now.script (text_of line_told.answer) until r one first in
        record {
          before = [];
          place = now;
          upto = no_line n now;
          mid = mid;
          piece = piece;
          line_told = line_told;
          k = n + length piece;
          left = left;
          after = more;
          j = n;
          from = one_more n now mid last piece left some line_told shown more;
          until_is = sym alone.0;
          said = first ∙ ap (λ (l : List Exchange). l ++ one ∷ r) alone.0 ∙ ap (λ (l : List Exchange). one ∷ l) alone.1;
          behind_is = sym (others ∙ ap (λ (l : List Exchange). l ++ rest) alone.1);
        }

    later_at : (fr : List Exchange) → until ≡ said ++ fr → LineAt (n + length piece) mid last fr one behind → LineAt n now last until one behind
    later_at fr first there = record {
      before = piece ++ there.before;
      place = there.place;
      upto = one_more n now mid there.place piece there.before some line_told shown there.upto;
      mid = there.mid;
      piece = there.piece;
      line_told = there.line_told;
      k = there.k;
      left = there.left;
      after = there.after;
      j = there.j;
      from = there.from;
      until_is = ap (λ (l : List Exchange). said ++ l) there.until_is ∙ sym first;
      said = there.said;
      behind_is = there.behind_is;
    }

    among : Parts said rest until behind one → ((fr : List Exchange) → rest ≡ fr ++ one ∷ behind → LineAt (n + length piece) mid last fr one behind) → LineAt n now last until one behind
    among (in_first r first others) further = first_at r first others
    among (in_second fr first others) further = later_at fr first (further fr others)

  pub line_at : (n : ℕ) (now last : At) (front : List ℕ) (lines : LinesTold host stretch n now front last) (until : List Exchange) (one : Exchange) (behind : List Exchange) → lines_here host stretch n now last front lines ≡ until ++ one ∷ behind → LineAt n now last until one behind
  line_at n now last front (no_line bytes at) until one behind is = absurd (never_in one (subst (λ (l : List Exchange). Contains l one) (sym is) (cut_has until behind one)))
  line_at n now last front (one_more bytes at mid end piece left some line_told shown more) until one behind is =
      among n now mid last piece left some line_told shown more until one behind (parts (said_of now.script (text_of line_told.answer)) (lines_here host stretch (n + length piece) mid last left more) until behind one is)
      (λ fr others. line_at (n + length piece) mid last left more fr one behind others)
