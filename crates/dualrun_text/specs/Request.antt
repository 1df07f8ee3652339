-- The first line: `lu N` or `eig N S`, N and S in one to nine decimal digits, single spaces, a newline at its end. Definitions only.
use Rattle.std.specs.Prelude.{ℕ, ◌+◌, cond, Option, Some, None, List, [], ◌∷◌, ltb, eqb, length}
use Rattle.refusals.specs.Number as refusal
use Rattle.refusals.specs.Largest as largest
use Rattle.texts.specs.declared.Number.{Number}
use Rattle.texts.specs.Bytes.{newline, space}
use Rattle.texts.specs.Digits.{byte_at, starts_with}
use Rattle.texts.specs.Numbers.{number_from}
use Rattle.dualrun_text.specs.declared.Request.{Request}
use Rattle.dualrun_text.specs.declared.Request.TheVariants.{Lu, Eig}

-- the most digits of N and of S
abbrev pub number_digits : ℕ
number_digits = 9

-- the bytes of the longest first line that can be read: `eig 999999999 999999999` and a newline
abbrev pub longest_line : ℕ
longest_line = 24

-- what f makes of the number and of the place after the byte that is wanted behind it
abbrev pub after : List ℕ → ℕ → (ℕ → ℕ → Option Request) → Option Number → Option Request
after text wanted f (Some n) = cond (eqb (byte_at text n.end) wanted) (f n.value (n.end + 1)) None
after text wanted f None = None

-- a number from p on, the byte wanted behind it, and so on by f
unfoldable pub number_then : List ℕ → ℕ → ℕ → (ℕ → ℕ → Option Request) → Option Request
number_then text p wanted f = after text wanted f (number_from number_digits text p)

-- "lu "
abbrev pub lu_word : List ℕ
lu_word = 108 ∷ 117 ∷ space ∷ []

-- "eig "
abbrev pub eig_word : List ℕ
eig_word = 101 ∷ 105 ∷ 103 ∷ space ∷ []

-- N and the newline: the matrix starts after it
abbrev pub lu_line : List ℕ → Option Request
lu_line text = number_then text (length lu_word) newline (λ n start. Some (Lu n start))

-- S and the newline, after N
abbrev pub limit_line : List ℕ → ℕ → ℕ → Option Request
limit_line text n p = number_then text p newline (λ limit start. Some (Eig n limit start))

-- N and a space, then S
abbrev pub eig_line : List ℕ → Option Request
eig_line text = number_then text (length eig_word) space (limit_line text)

-- what a first line asks
unfoldable pub request_of : List ℕ → Option Request
request_of text = cond (starts_with lu_word text) (lu_line text) (cond (starts_with eig_word text) (eig_line text) None)

-- `lu N` by its first line alone: refused where N is too large, 0 where it is not refused
abbrev pub lu_line_refusal : ℕ → ℕ
lu_line_refusal n = cond (ltb largest.n n) refusal.too_large 0

-- `eig N S`: refused where N is too large, where it is 0, where S is too large, in this order
abbrev pub eig_line_refusal : ℕ → ℕ → ℕ
eig_line_refusal n limit = cond (ltb largest.n n) refusal.too_large (cond (eqb n 0) refusal.empty (cond (ltb largest.limit limit) refusal.limit_too_large 0))

-- any request: refused too where its first line cannot be read
abbrev pub line_refusal : Option Request → ℕ
line_refusal (Some (Lu n start)) = lu_line_refusal n
line_refusal (Some (Eig n limit start)) = eig_line_refusal n limit
line_refusal None = refusal.unreadable
