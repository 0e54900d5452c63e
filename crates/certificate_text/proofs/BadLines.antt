-- Which line of a text is the first bad one.
use Rattle.std.proofs.Common.{◌≡◌, ◌⊎◌, Bool, true, false, ℕ, ◌+◌, ◌<◌, ◌≤◌, inl, inr, ◌++◌, List, [], ◌∷◌, length, Option, Some, None, Result, Ok, Err, IfOk, IfErr, refl, sym, ap, ◌∙◌, subst, arith, length-append}
use Rattle.std.specs.Prelude.{option_and_then, IsSome, ◌==◌}
use Rattle.std.specs.List.{AllZip}
use Rattle.std.proofs.lemmas.List.{append_assoc}
use Rattle.certificate.specs.declared.certificates.Certificate.{Certificate}
use Rattle.std.proofs.lemmas.Option.{none-some}
use Rattle.std.proofs.lemmas.Bool.{false≢true}
use Rattle.std.proofs.lemmas.Bool.Decides.{nat_tests}
use Rattle.certificate_text.specs.Line.{LineView, Spells}
use Rattle.certificate_text.specs.CertificateText.{AreLines, IsText}
use Rattle.certificate_text.specs.FirstBadLine.{CanBegin, IsFirstBadLine}
use Rattle.certificate_text.specs.LineTaken.{AsksForRoom}
use Rattle.certificate_text.specs.TextError.{AsksForMemory, IsTextError, IsRead}
use Rattle.certificate_text.specs.declared.reading.BadText.{BadText}
use Rattle.faults.specs.declared.or_memory.OrMemory.{OrMemory}
use Rattle.faults.specs.declared.or_memory.OrMemory.TheVariants.{Memory, Fault}
use Rattle.certificate_text.specs.Begun.{run, IsBegun}
use Rattle.certificate_text.specs.Finished.{finished}
use Rattle.certificate_text.specs.Parts.{parts}
use Rattle.certificate_text.specs.DraftView.{DraftView, next, empty_draft}
use Rattle.certificate_text.proofs.DraftLines.{ended_of}
use Rattle.certificate_text.proofs.Grammar.{lines_begun, begun_once, begun_ended, finished-ended, one_certificate}
use Rattle.certificate_text.proofs.Completing.{begun_can}
use Rattle.certificate_text.proofs.Runs.{run_after, begun_none, begun_more}
use Rattle.certificate_text.proofs.SpelledOnce.{spelled_once}
use Rattle.certificate_text.proofs.Zips.{zip_split, zip_once}
use Rattle.certificate_text.proofs.Cuts.{never_empty}

-- each line of some that make a draft could follow those before it
pub record Followed (ls : List (List ℕ)) (line : List ℕ) (d : DraftView) : Type 0 where
  pub said : LineView
  pub spelled : Spells line said
  pub after : DraftView
  pub next_is : next d said ≡ Some after

followed_by : (d : DraftView) (ls : List (List ℕ)) (line : List ℕ) (l : LineView) (more : List LineView) (e : DraftView) → Spells line l → run d (l ∷ more) ≡ Some e
    → Followed ls line d
followed_by d ls line l more e s r = at (next d l) refl r where
  at : (o : Option DraftView) → next d l ≡ o → option_and_then (λ x. run x more) o ≡ Some e → Followed ls line d
  at None n h = absurd (grind arith)
  at (Some f) n h = record { said = l; spelled = s; after = f; next_is = n }

-- where lines make a draft, and a certificate begins with them and one line more, that line can follow
pub followed : (ls : List (List ℕ)) (line : List ℕ) (more : List (List ℕ)) (d e : DraftView) → IsBegun ls d → IsBegun ((ls ++ line ∷ []) ++ more) e → Followed ls line d
followed ls line more d e b c =
    let whole : (ls ++ line ∷ []) ++ more ≡ ls ++ (line ∷ more) = append_assoc ls (line ∷ []) more in
    let all : AllZip Spells (ls ++ (line ∷ more)) c.said = subst (λ (k : List (List ℕ)). AllZip Spells k c.said) whole c.spelled in
    let split = zip_split Spells ls (line ∷ more) c.said all in
    let same : b.said ≡ split.front = zip_once Spells spelled_once ls b.said split.front b.spelled split.fronts in
    let front : run empty_draft split.front ≡ Some d = ap (run empty_draft) (sym same) ∙ b.run_is in
    let rest : run d split.back ≡ Some e = sym (run_after empty_draft d split.front split.back front) ∙ ap (run empty_draft) (sym split.whole) ∙ c.run_is in
    back split.back split.backs rest
  where
    back : (ms : List LineView) → AllZip Spells (line ∷ more) ms → run d ms ≡ Some e → Followed ls line d
    back [] h r = absurd h
    back (l ∷ ms) h r = followed_by d ls line l ms e h.0 r

pub begun_cannot : (ls : List (List ℕ)) (line : List ℕ) (d : DraftView) → IsBegun ls d → ((l : LineView) → Spells line l → next d l ≡ None)
    → CanBegin (ls ++ line ∷ []) → ⊥
begun_cannot ls line d b refused can =
    let c = lines_begun ((ls ++ line ∷ []) ++ can.0) can.1 can.2 in
    let f = followed ls line can.0 d (ended_of can.1) b c in
    absurd (let none = refused f.said f.spelled in let some = f.next_is in grind arith)

-- a line that another follows is a line of the text
pub front_of : (before : List (List ℕ)) (line : List ℕ) (after ls : List (List ℕ)) → before ++ line ∷ after ≡ ls ++ [] ∷ [] → (after ≡ [] → ⊥)
    → (more : List (List ℕ)) × (ls ≡ (before ++ line ∷ []) ++ more)
front_of [] line after [] e some = absurd (some (cc))
front_of [] line after (l ∷ ls) e some =
    let first : line ≡ l = cc in
    (ls, ap (λ x. x ∷ ls) (sym first))
front_of (b ∷ before) line after [] e some = absurd (not_short before (cc)) where
  not_short : (before : List (List ℕ)) → before ++ line ∷ after ≡ [] → ⊥
  not_short [] h = cc
  not_short (x ∷ xs) h = cc
front_of (b ∷ before) line after (l ∷ ls) e some =
    let first : b ≡ l = cc in
    let rest : before ++ line ∷ after ≡ ls ++ [] ∷ [] = cc in
    let p = front_of before line after ls rest some in
    (p.0, sym (ap (λ x. x ∷ ls) first) ∙ ap (λ xs. b ∷ xs) p.1)

-- a line that can't follow
pub bad_line : (text : List ℕ) (before : List (List ℕ)) (line rest : List ℕ) (d : DraftView) (n : ℕ) → parts 10 text ≡ before ++ line ∷ parts 10 rest
    → IsBegun before d → n ≡ length before + 1 → ((l : LineView) → Spells line l → next d l ≡ None) → IsFirstBadLine text n
bad_line text before line rest d n whole b number refused = record {
  before = before;
  line = line;
  after = parts 10 rest;
  lines_are = whole;
  number = number;
  begun = begun_can before d b;
  cannot = inr (begun_cannot before line d b refused);
  no_text = λ c t.
      let p = front_of before line (parts 10 rest) t.0 (sym whole ∙ t.1) (never_empty (λ x. x == 10) rest) in
      begun_cannot before line d b refused (p.0, c, subst (λ (k : List (List ℕ)). AreLines k c) p.1 t.2);
}

pub last_of : (before ls : List (List ℕ)) (last : List ℕ) → before ++ last ∷ [] ≡ ls ++ [] ∷ [] → (last ≡ []) × (before ≡ ls)
last_of [] [] last e = (cc, refl)
last_of [] (l ∷ []) last e = absurd (cc)
last_of [] (l ∷ m ∷ ls) last e = absurd (cc)
last_of (b ∷ []) [] last e = absurd (cc)
last_of (b ∷ c ∷ before) [] last e = absurd (cc)
last_of (b ∷ before) (l ∷ ls) last e =
    let first : b ≡ l = cc in
    let rest : before ++ last ∷ [] ≡ ls ++ [] ∷ [] = cc in
    let p = last_of before ls last rest in
    (p.0, ap (λ x. x ∷ before) first ∙ ap (λ xs. l ∷ xs) p.1)

-- the text ends in a line without its feed, or too early
pub bad_end : (text : List ℕ) (before : List (List ℕ)) (last : List ℕ) (d : DraftView) (n : ℕ) → parts 10 text ≡ before ++ last ∷ []
    → IsBegun before d → n ≡ length before + 1 → ((c : Certificate) → IsText text c → ⊥) → IsFirstBadLine text n
bad_end text before last d n whole b number no_text = record {
  before = before;
  line = last;
  after = [];
  lines_are = whole;
  number = number;
  begun = begun_can before d b;
  cannot = inl refl;
  no_text = no_text;
}

pub no_feed : (text : List ℕ) (before : List (List ℕ)) (last : List ℕ) → parts 10 text ≡ before ++ last ∷ [] → (last ≡ [] → ⊥) → (c : Certificate) → IsText text c → ⊥
no_feed text before last whole some c t = some (last_of before t.0 last (sym whole ∙ t.1)).0

pub too_early : (text : List ℕ) (before : List (List ℕ)) (last : List ℕ) (d : DraftView) → parts 10 text ≡ before ++ last ∷ [] → IsBegun before d
    → finished d ≡ None → (c : Certificate) → IsText text c → ⊥
too_early text before last d whole b short c t =
    let same : before ≡ t.0 = (last_of before t.0 last (sym whole ∙ t.1)).1 in
    let its : IsBegun before (ended_of c) = subst (λ (k : List (List ℕ)). IsBegun k (ended_of c)) (sym same) (lines_begun t.0 c t.2) in
    let draft : d ≡ ended_of c = begun_once before d (ended_of c) b its in
    none-some c (sym short ∙ ap finished draft ∙ finished-ended c)

pub read_whole : (text : List ℕ) (before : List (List ℕ)) (last : List ℕ) (d : DraftView) (c : Certificate) → parts 10 text ≡ before ++ last ∷ [] → last ≡ []
    → IsBegun before d → finished d ≡ Some c → IsText text c
read_whole text before last d c whole none b done =
    (before, whole ∙ ap (λ x. before ++ x ∷ []) none, begun_ended before d c b done)

-- so far: the lines before the rest of the text make the draft, and the rest begins at the line of this number
pub record IsReadTo (text rest : List ℕ) (d : DraftView) (n : ℕ) : Type 0 where
  pub before : List (List ℕ)
  pub whole : parts 10 text ≡ before ++ parts 10 rest
  pub begun : IsBegun before d
  pub number : n ≡ length before + 1
  pub fits : n + length rest ≤ length text + 1

pub read_none : (text : List ℕ) → IsReadTo text text empty_draft 1
read_none text = record { before = []; whole = refl; begun = begun_none; number = refl; fits = omega arith }

pub read_more : (text rest line after : List ℕ) (d e : DraftView) (n : ℕ) (l : LineView) → IsReadTo text rest d n → parts 10 rest ≡ line ∷ parts 10 after
    → length after < length rest → Spells line l → next d l ≡ Some e → IsReadTo text after e (n + 1)
read_more text rest line after d e n l r cut shorter s taken =
    let number : n ≡ length r.before + 1 = r.number in
    let fits : n + length rest ≤ length text + 1 = r.fits in
    record {
      before = r.before ++ line ∷ [];
      whole = r.whole ∙ ap (λ ls. r.before ++ ls) cut ∙ sym (append_assoc r.before (line ∷ []) (parts 10 after));
      begun = begun_more r.before line d e l r.begun s taken;
      number = simp length-append (omega arith);
      fits = omega arith;
    }

pub read_bad : (text rest line after : List ℕ) (d : DraftView) (n : ℕ) → IsReadTo text rest d n → parts 10 rest ≡ line ∷ parts 10 after
    → ((l : LineView) → Spells line l → next d l ≡ None) → IsFirstBadLine text n
read_bad text rest line after d n r cut refused =
    bad_line text r.before line after d n (r.whole ∙ ap (λ ls. r.before ++ ls) cut) r.begun r.number refused

pub read_no_feed : (text rest : List ℕ) (d : DraftView) (n : ℕ) → IsReadTo text rest d n → parts 10 rest ≡ rest ∷ [] → (rest ≡ [] → ⊥) → IsFirstBadLine text n
read_no_feed text rest d n r cut some =
    let whole : parts 10 text ≡ r.before ++ rest ∷ [] = r.whole ∙ ap (λ ls. r.before ++ ls) cut in
    bad_end text r.before rest d n whole r.begun r.number (no_feed text r.before rest whole some)

pub read_too_early : (text rest : List ℕ) (d : DraftView) (n : ℕ) → IsReadTo text rest d n → parts 10 rest ≡ rest ∷ [] → finished d ≡ None → IsFirstBadLine text n
read_too_early text rest d n r cut short =
    let whole : parts 10 text ≡ r.before ++ rest ∷ [] = r.whole ∙ ap (λ ls. r.before ++ ls) cut in
    bad_end text r.before rest d n whole r.begun r.number (too_early text r.before rest d whole r.begun short)

pub read_all : (text rest : List ℕ) (d : DraftView) (n : ℕ) (c : Certificate) → IsReadTo text rest d n → parts 10 rest ≡ rest ∷ [] → rest ≡ [] → finished d ≡ Some c → IsText text c
read_all text rest d n c r cut none done =
    read_whole text r.before rest d c (r.whole ∙ ap (λ ls. r.before ++ ls) cut) none r.begun done

pub no_bytes : (bytes : List ℕ) (empty : Bool) → empty ≡ (length bytes == 0) → empty ≡ true → bytes ≡ []
no_bytes [] empty e h = refl
no_bytes (b ∷ bytes) empty e h = absurd (grind (arith, nat_tests))

pub some_bytes : (bytes : List ℕ) (empty : Bool) → empty ≡ (length bytes == 0) → empty ≡ false → bytes ≡ [] → ⊥
some_bytes [] empty e h same = false≢true (sym h ∙ e)
some_bytes (b ∷ bytes) empty e h same = absurd (cc)

-- lines that can begin a certificate: so can the first of them
can_begin_front : (front more : List (List ℕ)) → CanBegin (front ++ more) → CanBegin front
can_begin_front front more c = (more ++ c.0, c.1, subst (λ (k : List (List ℕ)). AreLines k c.1) (append_assoc front more c.0) c.2)

-- of two places in a list the first is the other, or stands before it, or behind it
pub data Places (xs : List (List ℕ)) (y : List ℕ) (zs us : List (List ℕ)) (v : List ℕ) (ws : List (List ℕ)) : Type 0 where
  Same : length xs ≡ length us → Places xs y zs us v ws
  Before : (more : List (List ℕ)) → us ≡ (xs ++ y ∷ []) ++ more → (zs ≡ [] → ⊥) → Places xs y zs us v ws
  Behind : (more : List (List ℕ)) → xs ≡ (us ++ v ∷ []) ++ more → (ws ≡ [] → ⊥) → Places xs y zs us v ws

some_more : (us : List (List ℕ)) (v : List ℕ) (ws : List (List ℕ)) → us ++ v ∷ ws ≡ [] → ⊥
some_more [] v ws h = absurd (cc)
some_more (u ∷ us) v ws h = absurd (cc)

places_more : (b : List ℕ) (xs : List (List ℕ)) (y : List ℕ) (zs us : List (List ℕ)) (v : List ℕ) (ws : List (List ℕ)) → Places xs y zs us v ws
    → Places (b ∷ xs) y zs (b ∷ us) v ws
places_more b xs y zs us v ws (Same e) = Same (omega arith)
places_more b xs y zs us v ws (Before more e s) = Before more (ap (λ l. b ∷ l) e) s
places_more b xs y zs us v ws (Behind more e s) = Behind more (ap (λ l. b ∷ l) e) s

places : (xs : List (List ℕ)) (y : List ℕ) (zs us : List (List ℕ)) (v : List ℕ) (ws : List (List ℕ)) → xs ++ y ∷ zs ≡ us ++ v ∷ ws → Places xs y zs us v ws
places [] y zs [] v ws e = Same refl
places [] y zs (u ∷ us) v ws e =
    let first : y ≡ u = cc in
    let rest : zs ≡ us ++ v ∷ ws = cc in
    Before us (ap (λ x. x ∷ us) (sym first)) (λ none. some_more us v ws (sym rest ∙ none))
places (x ∷ xs) y zs [] v ws e =
    let first : x ≡ v = cc in
    let rest : xs ++ y ∷ zs ≡ ws = cc in
    Behind xs (ap (λ u. u ∷ xs) first) (λ none. some_more xs y zs (rest ∙ none))
places (x ∷ xs) y zs (u ∷ us) v ws e =
    let first : x ≡ u = cc in
    let rest : xs ++ y ∷ zs ≡ us ++ v ∷ ws = cc in
    subst (λ (b : List ℕ). Places (x ∷ xs) y zs (b ∷ us) v ws) first (places_more x xs y zs us v ws (places xs y zs us v ws rest))

-- a text has one first bad line at most
pub one_bad_line : (text : List ℕ) (m n : ℕ) → IsFirstBadLine text m → IsFirstBadLine text n → m ≡ n
one_bad_line text m n p q = at (places p.before p.line p.after q.before q.line q.after (sym p.lines_are ∙ q.lines_are)) where
  passed : (front more before : List (List ℕ)) → before ≡ front ++ more → CanBegin before → CanBegin front
  passed front more before e c = can_begin_front front more (subst (λ (k : List (List ℕ)). CanBegin k) e c)

  at : Places p.before p.line p.after q.before q.line q.after → m ≡ n
  at (Same e) = p.number ∙ ap (λ k. k + 1) e ∙ sym q.number
  at (Before more e some) = absurd (refuted p.cannot) where
    refuted : (p.after ≡ []) ⊎ (CanBegin (p.before ++ p.line ∷ []) → ⊥) → ⊥
    refuted (inl none) = some none
    refuted (inr cannot) = cannot (passed (p.before ++ p.line ∷ []) more q.before e q.begun)
  at (Behind more e some) = absurd (refuted q.cannot) where
    refuted : (q.after ≡ []) ⊎ (CanBegin (q.before ++ q.line ∷ []) → ⊥) → ⊥
    refuted (inl none) = some none
    refuted (inr cannot) = cannot (passed (q.before ++ q.line ∷ []) more p.before e p.begun)

pub some_of : {A : Type 0} (o : Option A) → IsSome o → (x : A) × (o ≡ Some x)
some_of (Some x) h = (x, refl)
some_of None h = absurd (false≢true h)

-- an allocation failed at a line
pub read_asks : (text rest line after : List ℕ) (d : DraftView) (n : ℕ) → IsReadTo text rest d n → parts 10 rest ≡ line ∷ parts 10 after → AsksForRoom d line → AsksForMemory text
read_asks text rest line after d n r cut a =
    let e = some_of (next d a.0) a.3 in
    record {
      before = r.before;
      line = line;
      after = parts 10 after;
      said = a.0;
      lines_are = r.whole ∙ ap (λ ls. r.before ++ ls) cut;
      ended = never_empty (λ x. x == 10) after;
      spelled = a.1;
      kept = a.2;
      begun = begun_can (r.before ++ line ∷ []) e.0 (begun_more r.before line d e.0 a.0 r.begun a.1 e.1);
    }

-- where the text stands for a certificate, that one was read, unless an allocation failed
pub is_read : (text : List ℕ) (r : Result Certificate (OrMemory BadText)) → IfOk r (λ c. IsText text c) → IfErr r (λ e. IsTextError text e)
    → (c : Certificate) → IsText text c → IsRead r c
is_read text (Ok d) ok bad c t = one_certificate text d c ok t
is_read text (Err Memory) ok bad c t = refl
is_read text (Err (Fault n)) ok bad c t = absurd (bad.no_text c t)
