-- A script that is underway, a piece or a line further.
use Rattle.std.proofs.Common.{◌≡◌, ℕ, ◌+◌, ◌<◌, ◌≤◌, false, List, [], ◌∷◌, ◌++◌, length, take, drop, Option, Some, None, refl, sym, ap, ◌∙◌, subst, arith, append-nil, append_assoc, length-append, length-take, rules}
use Rattle.std.proofs.KnownBytes.{Appends-nil, Appends-trans, Consumes-trans}
use Rattle.std.proofs.lemmas.Bool.Decides.{nat_tests}
use Rattle.std.proofs.lemmas.List.Elements.{All-append}
use Rattle.std.proofs.lemmas.List.Splits.{length-slice_split, slice_split_at, slice_split_none}
use Rattle.std.specs.Io.KnownBytes.{Appends, Consumes, IsAtEnd, Keeps}
use Rattle.std.specs.List.{All}
use Rattle.script.specs.Commands.{Asked}
use Rattle.script.specs.Ends.{Ends, EndsUnread, EndsUnwritten, IsGivenBy, SendsPart}
use Rattle.script.specs.Lines.{is_feed, line_kept, lines_of, with_piece}
use Rattle.script.specs.Runs.{AnswersLine, Runs}
use Rattle.script.specs.Underway.{Extends, Feeds, StopsIn, Underway}
use Rattle.script.specs.declared.running.TheConstants.{PIECE}
use Rattle.script.proofs.Feeds.{HasFeed, HasNoFeed}

-- a line with a piece behind it
pub with_piece-kept : (line piece : List ℕ) → with_piece (line_kept line) piece ≡ line_kept (line ++ piece)
with_piece-kept line piece = grind (arith, nat_tests, length-append line piece)

-- what was given before, and then nothing
Consumes-none : (read : Option (List ℕ)) → Consumes read read []
Consumes-none None = tt
Consumes-none (Some xs) = refl

Consumes-kept : (a b c : Option (List ℕ)) (bytes : List ℕ) → Consumes a b bytes → Keeps b c → Consumes a c bytes
Consumes-kept None b c bytes p k = p
Consumes-kept (Some xs) None c bytes p k = absurd p
Consumes-kept (Some xs) (Some ys) None bytes p k = absurd k
Consumes-kept (Some xs) (Some ys) (Some zs) bytes p k = p ∙ ap (λ r. bytes ++ r) (sym k)

Consumes-nothing : (a b c : Option (List ℕ)) (bytes : List ℕ) → Consumes a b bytes → Consumes b c [] → Consumes a c bytes
Consumes-nothing a b c bytes p k = let P : List ℕ → Type 0 = λ t. Consumes a c t in subst P (append-nil bytes) (Consumes-trans a b c bytes [] p k)

-- a read of nothing, with room for some, comes at the end
pub at_the_end : (a b : Option (List ℕ)) (count : ℕ) (bytes : List ℕ) → Consumes a b (take count bytes) × (count ≡ 0 → 0 < length bytes → IsAtEnd b) → count ≡ 0 → 0 < length bytes
    → Consumes a b [] × IsAtEnd b
at_the_end a b count bytes (taken, ended) none room = (let P : ℕ → Type 0 = λ n. Consumes a b (take n bytes) in subst P none taken, ended none room)

-- before the first read nothing was given
given-none : IsGivenBy 0 []
given-none = (omega arith, omega arith)

-- a read more that gave some bytes
pub given-more : (reads : ℕ) (input bytes : List ℕ) (count : ℕ) → IsGivenBy reads input → 0 < count → count ≤ length bytes → length bytes ≡ PIECE
    → IsGivenBy (reads + 1) (input ++ take count bytes)
given-more reads input bytes count (least, most) some within room = (
  omega (arith, least, some, within, length-append input (take count bytes), length-take count bytes),
  omega (arith, most, within, room, length-append input (take count bytes), length-take count bytes),
)

pub Keeps-self : (a : Option (List ℕ)) → Keeps a a
Keeps-self None = tt
Keeps-self (Some xs) = refl

module _ {S : Type 0} (Answers : S → Asked → List ℕ → S → Type 0) where
  -- one line more
  Runs-more : (old mid new : S) (lines : List (List ℕ)) (line text more : List ℕ) → Runs Answers old lines text mid → AnswersLine Answers mid (line_kept line) more new
      → Runs Answers old (lines ++ line ∷ []) (text ++ more) new
  Runs-more old mid new [] line text more run last =
      (new, more, [], (let P : S → Type 0 = λ s. AnswersLine Answers s (line_kept line) more new in subst P run.1 last), (refl, refl), ap (λ t. t ++ more) run.0 ∙ sym (append-nil more))
  Runs-more old mid new (l ∷ lines) line text more (next, first, others, answered, run, e) last =
      (next, first, others ++ more, answered, Runs-more next mid new lines line others more run last, ap (λ t. t ++ more) e ∙ append_assoc first others more)

  -- nothing was read yet
  pub Underway-start : (old : S) → Underway Answers old [] [] old (Some [])
  Underway-start old = record { lines = []; rest = []; cut = λ more. refl; partial = search rules; held_is = refl; run = (refl, refl) }

  -- a piece more that ends no line
  pub Underway-piece : (old mid : S) (input text piece : List ℕ) (held : Option (List ℕ)) → Underway Answers old input text mid held → All (λ byte. is_feed byte ≡ false) piece
      → Underway Answers old (input ++ piece) text mid (with_piece held piece)
  Underway-piece old mid input text piece held u none = record {
    lines = u.lines;
    rest = u.rest ++ piece;
    cut = λ more. ap lines_of (append_assoc input piece more) ∙ u.cut (piece ++ more) ∙ ap (λ r. u.lines ++ lines_of r) (sym (append_assoc u.rest piece more));
    partial = All-append (λ byte. is_feed byte ≡ false) u.rest piece u.partial none;
    held_is = ap (λ h. with_piece h piece) u.held_is ∙ with_piece-kept u.rest piece;
    run = u.run;
  }

  -- the line ends, and is answered
  pub Underway-feed : (old mid new : S) (input text more : List ℕ) (held : Option (List ℕ)) → Underway Answers old input text mid held → AnswersLine Answers mid held more new
      → Underway Answers old (input ++ 10 ∷ []) (text ++ more) new (Some [])
  Underway-feed old mid new input text more held u answered = record {
    lines = u.lines ++ u.rest ∷ [];
    rest = [];
    cut = λ later. ap lines_of (append_assoc input (10 ∷ []) later) ∙ u.cut (10 ∷ later) ∙ ap (λ ls. u.lines ++ ls) (slice_split_at is_feed u.rest 10 later u.partial refl)
        ∙ sym (append_assoc u.lines (u.rest ∷ []) (lines_of later));
    partial = search rules;
    held_is = refl;
    run = Runs-more old mid new u.lines u.rest text more u.run (let P : Option (List ℕ) → Type 0 = λ h. AnswersLine Answers mid h more new in subst P u.held_is answered);
  }

  -- whatever was read before, no bytes more leave it so
  pub Extends-none : (mid : S) (held : Option (List ℕ)) → Extends Answers [] [] mid held mid held
  Extends-none mid held = λ old input before u.
      let P : List ℕ → List ℕ → Type 0 = λ i t. Underway Answers old i t mid held in
      rw (append-nil input, append-nil before) u

  -- a piece that ends no line, and then a line feed
  pub Extends-line : (fed text piece more : List ℕ) (mid new newer : S) (held held' : Option (List ℕ)) → Extends Answers fed text mid held new held' → HasNoFeed piece
      → AnswersLine Answers new (with_piece held' piece) more newer → Extends Answers ((fed ++ piece) ++ 10 ∷ []) (text ++ more) mid held newer (Some [])
  Extends-line fed text piece more mid new newer held held' e none answered = λ old input before u.
      let v : Underway Answers old (((input ++ fed) ++ piece) ++ 10 ∷ []) ((before ++ text) ++ more) newer (Some []) =
      Underway-feed old new newer ((input ++ fed) ++ piece) (before ++ text) more (with_piece held' piece) (Underway-piece old new (input ++ fed) (before ++ text) piece held' (e old input before u) none) answered in
      subst (λ i. Underway Answers old i (before ++ (text ++ more)) newer (Some []))
      (ap (λ i. i ++ 10 ∷ []) (append_assoc input fed piece) ∙ append_assoc input (fed ++ piece) (10 ∷ []))
      (subst (λ t. Underway Answers old (((input ++ fed) ++ piece) ++ 10 ∷ []) t newer (Some [])) (append_assoc before text more) v)

  -- a last piece that ends no line
  pub Extends-piece : (fed text piece : List ℕ) (mid new : S) (held held' : Option (List ℕ)) → Extends Answers fed text mid held new held' → HasNoFeed piece
      → Extends Answers (fed ++ piece) text mid held new (with_piece held' piece)
  Extends-piece fed text piece mid new held held' e none = λ old input before u.
      subst (λ i. Underway Answers old i (before ++ text) new (with_piece held' piece)) (append_assoc input fed piece)
      (Underway-piece old new (input ++ fed) (before ++ text) piece held' (e old input before u) none)

  -- some bytes were fed, and the rest is left
  pub record HasFed (out out' : Option (List ℕ)) (bytes rest : List ℕ) (mid : S) (held : Option (List ℕ)) (new : S) (held' : Option (List ℕ)) : Type 0 where
    pub fed : List ℕ
    pub text : List ℕ
    pub cut : bytes ≡ fed ++ rest
    pub extends : Extends Answers fed text mid held new held'
    pub went_out : Appends out out' text

  pub HasFed-none : (out : Option (List ℕ)) (bytes : List ℕ) (mid : S) (held : Option (List ℕ)) → HasFed out out bytes bytes mid held mid held
  HasFed-none out bytes mid held = record { fed = []; text = []; cut = refl; extends = Extends-none mid held; went_out = Appends-nil out }

  -- the bytes up to a line feed, and through it
  up_to : (bytes fed rest : List ℕ) (at : ℕ) → bytes ≡ fed ++ rest → HasFeed rest at → bytes ≡ (fed ++ take at rest) ++ 10 ∷ drop (at + 1) rest
  up_to bytes fed rest at cut f = cut ∙ ap (λ r. fed ++ r) f.cut ∙ sym (append_assoc fed (take at rest) (10 ∷ drop (at + 1) rest))

  through : (bytes fed rest : List ℕ) (at : ℕ) → bytes ≡ fed ++ rest → HasFeed rest at → bytes ≡ ((fed ++ take at rest) ++ 10 ∷ []) ++ drop (at + 1) rest
  through bytes fed rest at cut f = up_to bytes fed rest at cut f ∙ sym (append_assoc (fed ++ take at rest) (10 ∷ []) (drop (at + 1) rest))

  pub HasFed-line : (out out' out'' : Option (List ℕ)) (bytes rest : List ℕ) (at : ℕ) (mid new newer : S) (held held' line cleared : Option (List ℕ)) (more : List ℕ)
      → HasFed out out' bytes rest mid held new held' → HasFeed rest at → line ≡ with_piece held' (take at rest) → AnswersLine Answers new line more newer → Appends out' out'' more
      → cleared ≡ Some [] → HasFed out out'' bytes (drop (at + 1) rest) mid held newer cleared
  HasFed-line out out' out'' bytes rest at mid new newer held held' line cleared more h f pushed answered written empty = rw empty record {
    fed = (h.fed ++ take at rest) ++ 10 ∷ [];
    text = h.text ++ more;
    cut = through bytes h.fed rest at h.cut f;
    extends = Extends-line h.fed h.text (take at rest) more mid new newer held held' h.extends f.first (let P : Option (List ℕ) → Type 0 = λ l. AnswersLine Answers new l more newer in subst P pushed answered);
    went_out = Appends-trans out out' out'' h.text more h.went_out written;
  }

  -- the answer to a line was not written
  pub HasFed-stops : (out out' out'' : Option (List ℕ)) (bytes rest : List ℕ) (at : ℕ) (mid new newer : S) (held held' line : Option (List ℕ)) (more : List ℕ)
      → HasFed out out' bytes rest mid held new held' → HasFeed rest at → line ≡ with_piece held' (take at rest) → AnswersLine Answers new line more newer → SendsPart out' out'' more
      → StopsIn Answers out out'' bytes mid held newer
  HasFed-stops out out' out'' bytes rest at mid new newer held held' line more h f pushed answered part = record {
    fed = h.fed ++ take at rest;
    rest = drop (at + 1) rest;
    text = h.text;
    answer = more;
    last = new;
    line = with_piece held' (take at rest);
    cut = up_to bytes h.fed rest at h.cut f;
    extends = Extends-piece h.fed h.text (take at rest) mid new held held' h.extends f.first;
    answered = (let P : Option (List ℕ) → Type 0 = λ l. AnswersLine Answers new l more newer in subst P pushed answered);
    written = record { mid = out'; went_out = h.went_out; part = part };
  }

  -- no line feed is left
  pub HasFed-all : (out out' : Option (List ℕ)) (bytes rest : List ℕ) (mid new : S) (held held' line : Option (List ℕ)) → HasFed out out' bytes rest mid held new held' → HasNoFeed rest
      → line ≡ with_piece held' rest → Feeds Answers out out' bytes mid held new line
  HasFed-all out out' bytes rest mid new held held' line h none pushed = rw pushed record {
    text = h.text;
    extends = subst (λ b. Extends Answers b h.text mid held new (with_piece held' rest)) (sym h.cut) (Extends-piece h.fed h.text rest mid new held held' h.extends none);
    went_out = h.went_out;
  }

  -- some of the script was read, and its answers went out
  pub record IsRunning (read read' out out' : Option (List ℕ)) (reads : ℕ) (old new : S) (held : Option (List ℕ)) : Type 0 where
    pub input : List ℕ
    pub text : List ℕ
    pub given : IsGivenBy reads input
    pub taken : Consumes read read' input
    pub underway : Underway Answers old input text new held
    pub went_out : Appends out out' text

  pub IsRunning-start : (read out : Option (List ℕ)) (old : S) (line : Option (List ℕ)) → line ≡ Some [] → IsRunning read read out out 0 old old line
  IsRunning-start read out old line empty = rw empty record { input = []; text = []; given = given-none; taken = Consumes-none read; underway = Underway-start old; went_out = Appends-nil out }

  pub IsRunning-more : (read read' read'' out out' out'' : Option (List ℕ)) (reads : ℕ) (old new newer : S) (held held' : Option (List ℕ)) (piece : List ℕ)
      → (r : IsRunning read read' out out' reads old new held) → IsGivenBy (reads + 1) (r.input ++ piece) → Consumes read' read'' piece → Feeds Answers out' out'' piece new held newer held'
      → IsRunning read read'' out out'' (reads + 1) old newer held'
  IsRunning-more read read' read'' out out' out'' reads old new newer held held' piece r given taken f = record {
    input = r.input ++ piece;
    text = r.text ++ f.text;
    given = given;
    taken = Consumes-trans read read' read'' r.input piece r.taken taken;
    underway = f.extends old r.input r.text r.underway;
    went_out = Appends-trans out out' out'' r.text f.text r.went_out f.went_out;
  }

  -- the lines that were answered, and the one that is left
  lines-left : (old new : S) (input text : List ℕ) (held : Option (List ℕ)) (u : Underway Answers old input text new held) → lines_of input ≡ u.lines ++ u.rest ∷ []
  lines-left old new input text held u =
      ap lines_of (sym (append-nil input)) ∙ u.cut [] ∙ ap (λ r. u.lines ++ lines_of r) (append-nil u.rest) ∙ ap (λ ls. u.lines ++ ls) (slice_split_none is_feed u.rest u.partial)

  -- a read failed
  pub IsRunning-unread : (read read' read'' out out' : Option (List ℕ)) (reads : ℕ) (old new : S) (held : Option (List ℕ)) → IsRunning read read' out out' reads old new held → Keeps read' read''
      → EndsUnread Answers read read'' out out' reads old new
  IsRunning-unread read read' read'' out out' reads old new held r kept = record {
    input = r.input;
    lines = r.underway.lines;
    last = r.underway.rest;
    text = r.text;
    given = r.given;
    taken = Consumes-kept read read' read'' r.input r.taken kept;
    cut = lines-left old new r.input r.text held r.underway;
    run = r.underway.run;
    went_out = r.went_out;
  }

  -- the last line is answered
  last-run : (old new newer : S) (input text more : List ℕ) (held : Option (List ℕ)) → Underway Answers old input text new held → AnswersLine Answers new held more newer
      → Runs Answers old (lines_of input) (text ++ more) newer
  last-run old new newer input text more held u answered =
      subst (λ ls. Runs Answers old ls (text ++ more) newer) (sym (lines-left old new input text held u))
      (Runs-more old new newer u.lines u.rest text more u.run (let P : Option (List ℕ) → Type 0 = λ h. AnswersLine Answers new h more newer in subst P u.held_is answered))

  pub IsRunning-ends : (most : ℕ) (read read' read'' out out' out'' : Option (List ℕ)) (reads : ℕ) (old new newer : S) (held : Option (List ℕ)) (more : List ℕ)
      → reads < most → IsRunning read read' out out' reads old new held → Consumes read' read'' [] × IsAtEnd read'' → AnswersLine Answers new held more newer → Appends out' out'' more
      → Ends most Answers read read'' out out'' old newer
  IsRunning-ends most read read' read'' out out' out'' reads old new newer held more few r (taken, ended) answered written = record {
    input = r.input;
    text = r.text ++ more;
    reads = reads;
    few = few;
    given = r.given;
    taken = Consumes-nothing read read' read'' r.input r.taken taken;
    ended = ended;
    run = last-run old new newer r.input r.text more held r.underway answered;
    went_out = Appends-trans out out' out'' r.text more r.went_out written;
  }

  pub IsRunning-end_unwritten : (most : ℕ) (read read' read'' out out' out'' : Option (List ℕ)) (reads : ℕ) (old new newer : S) (held : Option (List ℕ)) (more : List ℕ)
      → reads < most → IsRunning read read' out out' reads old new held → Consumes read' read'' [] × IsAtEnd read'' → AnswersLine Answers new held more newer → SendsPart out' out'' more
      → EndsUnwritten most Answers read read'' out out'' old newer
  IsRunning-end_unwritten most read read' read'' out out' out'' reads old new newer held more few r (taken, ended) answered part = record {
    input = r.input;
    before = r.underway.lines;
    line = r.underway.rest;
    others = [];
    text = r.text;
    answer = more;
    mid = new;
    reads = reads;
    few = omega (arith, few);
    given = r.given;
    taken = Consumes-nothing read read' read'' r.input r.taken taken;
    cut = lines-left old new r.input r.text held r.underway;
    whole = λ e. ended;
    run = r.underway.run;
    answered = (let P : Option (List ℕ) → Type 0 = λ h. AnswersLine Answers new h more newer in subst P r.underway.held_is answered);
    written = record { mid = out'; went_out = r.went_out; part = part };
  }

  pub IsRunning-unwritten : (most : ℕ) (read read' read'' out out' out'' : Option (List ℕ)) (reads : ℕ) (old new newer : S) (held : Option (List ℕ)) (piece : List ℕ)
      → reads < most → (r : IsRunning read read' out out' reads old new held) → IsGivenBy (reads + 1) (r.input ++ piece) → Consumes read' read'' piece → StopsIn Answers out' out'' piece new held newer → EndsUnwritten most Answers read read'' out out'' old newer
  IsRunning-unwritten most read read' read'' out out' out'' reads old new newer held piece few r given taken s =
      let u : Underway Answers old (r.input ++ s.fed) (r.text ++ s.text) s.last s.line = s.extends old r.input r.text r.underway in
      record {
        input = r.input ++ piece;
        before = u.lines;
        line = u.rest;
        others = lines_of s.rest;
        text = r.text ++ s.text;
        answer = s.answer;
        mid = s.last;
        reads = reads + 1;
        few = omega (arith, few);
        given = given;
        taken = Consumes-trans read read' read'' r.input piece r.taken taken;
        cut = ap (λ b. lines_of (r.input ++ b)) s.cut ∙ ap lines_of (sym (append_assoc r.input s.fed (10 ∷ s.rest))) ∙ u.cut (10 ∷ s.rest)
            ∙ ap (λ ls. u.lines ++ ls) (slice_split_at is_feed u.rest 10 s.rest u.partial refl);
        whole = λ e. absurd (omega (arith, length-slice_split is_feed s.rest, ap length e));
        run = u.run;
        answered = (let P : Option (List ℕ) → Type 0 = λ h. AnswersLine Answers s.last h s.answer newer in subst P u.held_is s.answered);
        written = record { mid = s.written.mid; went_out = Appends-trans out out' s.written.mid r.text s.text r.went_out s.written.went_out; part = s.written.part };
      }
