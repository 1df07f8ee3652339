-- The first line decides: a text that is refused 1, 3 or 4 by it, or whose first line cannot be read, gives the same output whatever follows that line. Each
-- reader stops at a newline, so two texts that are the same up to a newline ask the same. Assumes nothing.
use Prim.Native.Nat.{ℕ, ◌<◌, ◌≤◌}
use mathlib.Core.Path.{◌≡◌, refl, sym, ap, ◌∙◌}
use mathlib.Core.Bool.{Bool, true, false, not, ◌&&◌, ◌||◌, true≢false}
use mathlib.Core.List.{List, [], ◌∷◌, ◌++◌, append_assoc}
use native.Mathlib.Omega.{arith}
use lib.Dec.{leb, ltb, eqb}
use lib.ListN.{length, get_or-append, length-append}
use lib.Seq.{get_or-append_seam}
use borrow.Author.Tests.{leb-true, ltb-true, ltb-false, le-leb, ne_eqb, eqb-false, not-true}
use Rattle.texts.specs.Bytes.{newline}
use Rattle.texts.specs.Digits.{byte_at, no_newline}
use Rattle.texts.proofs.Every.{both_true}
use Rattle.texts.proofs.Newline.{Clear, clear_fewer, clear_text, text_clear}
use Rattle.std.specs.Prelude.{Option, Some, None, Result, Ok, Err}
use Rattle.std.specs.Result.{is_err}
use Rattle.refusals.specs.declared.Refusal.{Refusal}
use Rattle.refusals.specs.Refused.{number, answer_number}
use Rattle.refusals.proofs.Numbers.{number_positive}
use Rattle.dualrun_text.specs.declared.Request.{Request}
use Rattle.dualrun_text.specs.declared.Request.TheVariants.{Lu, Eig}
use Rattle.dualrun_text.specs.Request.{longest_line, request_of, lu_line_refusal, eig_line_refusal, line_refusal}
use Rattle.dualrun_text.specs.Output.{lu_output, eig_output, output_for, output_of}
use Rattle.dualrun_text.specs.Decided.{has_line, decided_of}
use Rattle.dualrun_text.proofs.Commands.{unless_same}
use Rattle.dualrun_text.proofs.LineCame.{has_newline}
use Rattle.dualrun_text.proofs.FirstBytes.{request_same, no_line}

-- ---- what has a line asks the same, whatever follows
module _ (text rest : List ℕ) (whole : has_line text ≡ true) where
  -- past its end a newline was passed, or as many bytes as the longest line has
  ended : (i : ℕ) → i < longest_line → length text ≤ i → Clear (text ++ rest) i → ⊥
  unfolding has_line
  ended i few past c = by (leb longest_line (length text)) refl (no_newline text) refl
    where
      none : no_newline text ≡ true
      none = text_clear text (λ j lt e. c j (omega arith) (get_or-append text rest 0 j lt ∙ e))

      by : (a : Bool) → leb longest_line (length text) ≡ a → (b : Bool) → no_newline text ≡ b → ⊥
      by true e b g = let h = leb-true longest_line (length text) e in omega arith
      by false e true g = true≢false (sym whole ∙ (λ i. e i || not (g i)))
      by false e false g = true≢false (sym none ∙ g)

  pub prefix_request : request_of text ≡ request_of (text ++ rest)
  prefix_request = request_same text (text ++ rest) (λ i few c. by i few c (ltb i (length text)) refl)
    where
      by : (i : ℕ) → i < longest_line → Clear (text ++ rest) i → (b : Bool) → ltb i (length text) ≡ b → byte_at text i ≡ byte_at (text ++ rest) i
      by i few c true e = sym (get_or-append text rest 0 i (ltb-true i (length text) e))
      by i few c false e = absurd (ended i few (ltb-false i (length text) e) c)

-- ---- a refusal by the first line does not look at the text
refused_same : (s t : List ℕ) (r : Option Request) → (line_refusal r ≡ 0 → ⊥) → output_for s r ≡ output_for t r
unfolding lu_output eig_output
refused_same s t (Some (Lu n start)) h = unless_same (lu_line_refusal n) _ _ (λ z. absurd (h z))
refused_same s t (Some (Eig n limit start)) h = unless_same (eig_line_refusal n limit) _ _ (λ z. absurd (h z))
refused_same s t None h = refl

-- ---- the test, by whether the line has come
module _ (text : List ℕ) where
  pub not_come : false ≡ has_line text → false ≡ decided_of text
  unfolding decided_of
  not_come h = ap (λ (b : Bool). b && not (eqb (line_refusal (request_of text)) 0)) h

  module _ (whole : true ≡ has_line text) where
    by_refusal : (k : ℕ) → k ≡ line_refusal (request_of text) → not (eqb k 0) ≡ decided_of text
    unfolding decided_of
    by_refusal k told = ap (λ (j : ℕ). not (eqb j 0)) told ∙ ap (λ (b : Bool). b && not (eqb (line_refusal (request_of text)) 0)) whole

    pub come_unreadable : None ≡ request_of text → true ≡ decided_of text
    come_unreadable asked = by_refusal (line_refusal None) (ap line_refusal asked)

    pub come : (q : Request) (r : Result (Unit {0}) Refusal) → Some q ≡ request_of text → answer_number r ≡ line_refusal (Some q) → is_err r ≡ decided_of text
    come q r asked told = refused r ∙ by_refusal (answer_number r) (told ∙ ap line_refusal asked)
      where
        refused : (s : Result (Unit {0}) Refusal) → is_err s ≡ not (eqb (answer_number s) 0)
        refused (Ok x) = refl
        refused (Err e) = ap not (sym (ne_eqb (number e) 0 (λ z. omega (arith, number_positive e))))

-- what the program stands on: where the beginning of a text decides, the rest need not be read
pub decided_output : (text rest : List ℕ) → decided_of text ≡ true → output_of (text ++ rest) ≡ output_of text
unfolding output_of decided_of
decided_output text rest e =
    let h = both_true (has_line text) (not (eqb (line_refusal (request_of text)) 0)) e in
    ap (output_for (text ++ rest)) (sym (prefix_request text rest h.0))
    ∙ refused_same (text ++ rest) text (request_of text) (eqb-false _ 0 (not-true _ h.1))

-- ---- a line and its newline
module _ (line : List ℕ) where
  has_line_lem : has_line (line ++ newline ∷ []) ≡ true
  has_line_lem = sym (has_newline (line ++ newline ∷ []) (length line) (omega (arith, length-append line (newline ∷ []))) (get_or-append_seam line newline [] 0))

  -- what a text asks is what its first line asks
  pub line_request : (rest : List ℕ) → request_of (line ++ newline ∷ rest) ≡ request_of (line ++ newline ∷ [])
  line_request rest = ap request_of (sym (append_assoc line (newline ∷ []) rest)) ∙ sym (prefix_request (line ++ newline ∷ []) rest has_line_lem)

  -- two texts that are the same up to and including a newline, refused 1, 3 or 4 by the line or with a line that cannot be read: the same output
  pub line_output : (rest other : List ℕ) → (line_refusal (request_of (line ++ newline ∷ rest)) ≡ 0 → ⊥) → output_of (line ++ newline ∷ rest) ≡ output_of (line ++ newline ∷ other)
  unfolding output_of
  line_output rest other h =
      refused_same (line ++ newline ∷ rest) (line ++ newline ∷ other) (request_of (line ++ newline ∷ rest)) h
      ∙ ap (output_for (line ++ newline ∷ other)) (line_request rest ∙ sym (line_request other))

  -- and it is decided once the newline has come
  pub line_decided : (rest : List ℕ) → (line_refusal (request_of (line ++ newline ∷ rest)) ≡ 0 → ⊥) → decided_of (line ++ newline ∷ []) ≡ true
  unfolding decided_of
  line_decided rest h =
      ap (λ (b : Bool). b && not (eqb (line_refusal (request_of (line ++ newline ∷ []))) 0)) has_line_lem
      ∙ ap (λ (r : Option Request). not (eqb (line_refusal r) 0)) (sym (line_request rest)) ∙ ap not (ne_eqb _ 0 h)

-- 24 bytes with no newline among them cannot be read, which decides
pub long_line_decided : (text : List ℕ) → longest_line ≤ length text → no_newline text ≡ true → decided_of text ≡ true
unfolding decided_of has_line
long_line_decided text h none =
    ap (λ (b : Bool). (b || not (no_newline text)) && not (eqb (line_refusal (request_of text)) 0)) (le-leb longest_line (length text) h)
    ∙ ap (λ (r : Option Request). not (eqb (line_refusal r) 0)) (no_line text (clear_fewer text longest_line (clear_text text none) h))
