-- No second outcome meets the promise of an export: one number, and one content of each lent place and buffer. Assumes nothing.
use Prim.Native.Nat.{ℕ}
use mathlib.Core.Path.{◌≡◌, refl, ap, sym, ◌∙◌}
use mathlib.Core.List.{List}
use lib.Ieee.{Float}
use borrow.Fn.Kinds.{Dens, In, ended_of}
use contract.Lifetimes.{Lfts}
use denote.Triple.Clauses.{at_exit}
use Rattle.real.proofs.Only.{Only}
use Rattle.exports.proofs.root.evindrast_sqrt as sqrt
use Rattle.exports.proofs.root.evindrast_sqrt_word as sqrt-word
use Rattle.exports.proofs.record.evindrast_record as by_number
use Rattle.exports.proofs.record.evindrast_sum as sum
use Rattle.exports.proofs.record.evindrast_product as product
use Rattle.exports.proofs.operators.evindrast_add as add
use Rattle.exports.proofs.operators.evindrast_sub as sub
use Rattle.exports.proofs.operators.evindrast_mul as mul
use Rattle.exports.proofs.operators.evindrast_div as div
use Rattle.exports.proofs.linalg.evindrast_lu as lu
use Rattle.exports.proofs.linalg.evindrast_solve as solve
use Rattle.exports.proofs.linalg.evindrast_determinant as determinant
use Rattle.exports.proofs.linalg.evindrast_inverse as inverse
use Rattle.exports.proofs.linalg.evindrast_jacobi_eigenvalue as jacobi
use Rattle.exports.proofs.hyperdual_linalg.evindrast_hyperdual_lu as hyper-lu
use Rattle.exports.proofs.hyperdual_linalg.evindrast_hyperdual_solve as hyper-solve
use Rattle.exports.proofs.hyperdual_linalg.evindrast_hyperdual_determinant as hyper-determinant
use Rattle.exports.proofs.hyperdual_linalg.evindrast_hyperdual_inverse as hyper-inverse
use Rattle.exports.proofs.matrix_market.evindrast_market_size as market_size
use Rattle.exports.proofs.matrix_market.evindrast_market_read as market_read
use Rattle.exports.proofs.matrix_market.evindrast_market_write as market-write
use Rattle.exports.proofs.matrix_market.evindrast_hyperdual_market_read as hyper-market-read
use Rattle.exports.proofs.matrix_market.evindrast_hyperdual_market_write as hyper-market-write

-- the parts of what crosses
first : {A B : Type 0} {x y : A × B} → x ≡ y → x.0 ≡ y.0
first e = ap (λ p. p.0) e

rest : {A B : Type 0} {x y : A × B} → x ≡ y → x.1 ≡ y.1
rest e = ap (λ p. p.1) e

pub sqrt_only : Only 0 sqrt.Kinds.ps sqrt.Kinds.r sqrt.Reads.Pre sqrt.Reads.Post
sqrt_only κs a x y v w h p q = (p ∙ sym q, refl)

pub sqrt_word_only : Only 0 sqrt-word.Kinds.ps sqrt-word.Kinds.r sqrt-word.Reads.Pre sqrt-word.Reads.Post
sqrt_word_only κs a x y v w h p q = (p ∙ sym q, refl)

-- LU, solve and inverse over any record: what is left is a function of the arguments
lu_only_by : (pre : In 4 lu.Kinds.ps) (left : (κs : Lfts 4) → Dens κs lu.Kinds.ps → ℕ × (ℕ × (List Float × List ℕ))) → Only 4 lu.Kinds.ps lu.Kinds.r pre (λ κs a x s. (x, (s.1.1.1.1.0.now, (s.1.1.0.now, s.1.1.1.0.now))) ≡ left κs a)
lu_only_by pre left κs a x y v w h p q = let e = p ∙ sym q in (first e, λ i. at_exit (ended_of 4 lu.Kinds.ps lu.Kinds.r) κs a (v.0, (v.1.0, (first (rest (rest e)) i, (rest (rest (rest e)) i, (first (rest e) i, tt))))))

solve_only_by : (pre : In 4 solve.Kinds.ps) (left : (κs : Lfts 4) → Dens κs solve.Kinds.ps → ℕ × List Float) → Only 4 solve.Kinds.ps solve.Kinds.r pre (λ κs a x s. (x, s.1.1.1.1.0.now) ≡ left κs a)
solve_only_by pre left κs a x y v w h p q = let e = p ∙ sym q in (first e, λ i. at_exit (ended_of 4 solve.Kinds.ps solve.Kinds.r) κs a (v.0, (v.1.0, (v.1.1.0, (v.1.1.1.0, (rest e i, tt))))))

inverse_only_by : (pre : In 3 inverse.Kinds.ps) (left : (κs : Lfts 3) → Dens κs inverse.Kinds.ps → ℕ × List Float) → Only 3 inverse.Kinds.ps inverse.Kinds.r pre (λ κs a x s. (x, s.1.1.1.0.now) ≡ left κs a)
inverse_only_by pre left κs a x y v w h p q = let e = p ∙ sym q in (first e, λ i. at_exit (ended_of 3 inverse.Kinds.ps inverse.Kinds.r) κs a (v.0, (v.1.0, (v.1.1.0, (rest e i, tt)))))

-- the operators; the sum and the product of a run
operator_only_by : (pre : In 2 add.Kinds.ps) (left : (κs : Lfts 2) → Dens κs add.Kinds.ps → ℕ × List ℕ) → Only 2 add.Kinds.ps add.Kinds.r pre (λ κs a x s. (x, s.1.1.0.now) ≡ left κs a)
operator_only_by pre left κs a x y v w h p q = let e = p ∙ sym q in (first e, λ i. at_exit (ended_of 2 add.Kinds.ps add.Kinds.r) κs a (v.0, (v.1.0, (rest e i, tt))))

join_only_by : (pre : In 2 sum.Kinds.ps) (left : (κs : Lfts 2) → Dens κs sum.Kinds.ps → ℕ × List Float) → Only 2 sum.Kinds.ps sum.Kinds.r pre (λ κs a x s. (x, s.1.1.0.now) ≡ left κs a)
join_only_by pre left κs a x y v w h p q = let e = p ∙ sym q in (first e, λ i. at_exit (ended_of 2 sum.Kinds.ps sum.Kinds.r) κs a (v.0, (v.1.0, (rest e i, tt))))

pub lu_only : Only 4 lu.Kinds.ps lu.Kinds.r lu.Reads.Pre lu.Reads.Post
lu_only = lu_only_by lu.Reads.Pre _

pub solve_only : Only 4 solve.Kinds.ps solve.Kinds.r solve.Reads.Pre solve.Reads.Post
solve_only = solve_only_by solve.Reads.Pre _

pub determinant_only : Only 4 determinant.Kinds.ps determinant.Kinds.r determinant.Reads.Pre determinant.Reads.Post
determinant_only κs a x y v w h p q =
    let e = p ∙ sym q in (
      first e,
      λ i. at_exit (ended_of 4 determinant.Kinds.ps determinant.Kinds.r) κs a (v.0, (v.1.0, (v.1.1.0, (v.1.1.1.0, (first (rest e) i, (rest (rest e) i, tt)))))),
    )

pub inverse_only : Only 3 inverse.Kinds.ps inverse.Kinds.r inverse.Reads.Pre inverse.Reads.Post
inverse_only = inverse_only_by inverse.Reads.Pre _

pub jacobi_only : Only 4 jacobi.Kinds.ps jacobi.Kinds.r jacobi.Reads.Pre jacobi.Reads.Post
jacobi_only κs a x y v w h p q =
    let e = p ∙ sym q in (
      first e,
      λ i. at_exit (ended_of 4 jacobi.Kinds.ps jacobi.Kinds.r) κs a (v.0, (v.1.0, (v.1.1.0, (first (rest (rest e)) i, (rest (rest (rest e)) i, (first (rest e) i, tt)))))),
    )

pub hyper_lu_only : Only 4 hyper-lu.Kinds.ps hyper-lu.Kinds.r hyper-lu.Reads.Pre hyper-lu.Reads.Post
hyper_lu_only = lu_only_by hyper-lu.Reads.Pre _

pub hyper_solve_only : Only 4 hyper-solve.Kinds.ps hyper-solve.Kinds.r hyper-solve.Reads.Pre hyper-solve.Reads.Post
hyper_solve_only = solve_only_by hyper-solve.Reads.Pre _

pub hyper_determinant_only : Only 6 hyper-determinant.Kinds.ps hyper-determinant.Kinds.r hyper-determinant.Reads.Pre hyper-determinant.Reads.Post
hyper_determinant_only κs a x y v w h p q =
    let e = p ∙ sym q in
    let slopes = rest (rest e) in (
      first e,
      λ i. at_exit (ended_of 6 hyper-determinant.Kinds.ps hyper-determinant.Kinds.r) κs a (v.0, (v.1.0, (v.1.1.0, (v.1.1.1.0, (first (rest e) i, (first slopes i, (first (rest slopes) i, (rest (rest slopes) i, tt)))))))),
    )

pub hyper_inverse_only : Only 3 hyper-inverse.Kinds.ps hyper-inverse.Kinds.r hyper-inverse.Reads.Pre hyper-inverse.Reads.Post
hyper_inverse_only = inverse_only_by hyper-inverse.Reads.Pre _

pub record_only : Only 3 by_number.Kinds.ps by_number.Kinds.r by_number.Reads.Pre by_number.Reads.Post
record_only κs a x y v w h p q =
    let e = p ∙ sym q in (
      first e,
      λ i. at_exit (ended_of 3 by_number.Kinds.ps by_number.Kinds.r) κs a (v.0, (v.1.0, (v.1.1.0, (v.1.1.1.0, (v.1.1.1.1.0, (rest e i, tt)))))),
    )

pub add_only : Only 2 add.Kinds.ps add.Kinds.r add.Reads.Pre add.Reads.Post
add_only = operator_only_by add.Reads.Pre _

pub sub_only : Only 2 sub.Kinds.ps sub.Kinds.r sub.Reads.Pre sub.Reads.Post
sub_only = operator_only_by sub.Reads.Pre _

pub mul_only : Only 2 mul.Kinds.ps mul.Kinds.r mul.Reads.Pre mul.Reads.Post
mul_only = operator_only_by mul.Reads.Pre _

pub div_only : Only 2 div.Kinds.ps div.Kinds.r div.Reads.Pre div.Reads.Post
div_only = operator_only_by div.Reads.Pre _

pub sum_only : Only 2 sum.Kinds.ps sum.Kinds.r sum.Reads.Pre sum.Reads.Post
sum_only = join_only_by sum.Reads.Pre _

pub product_only : Only 2 product.Kinds.ps product.Kinds.r product.Reads.Pre product.Reads.Post
product_only = join_only_by product.Reads.Pre _

-- Matrix Market: reading and writing over any record
read_only_by : (pre : In 3 market_read.Kinds.ps) (left : (κs : Lfts 3) → Dens κs market_read.Kinds.ps → ℕ × (ℕ × List Float)) → Only 3 market_read.Kinds.ps market_read.Kinds.r pre (λ κs a x s. (x, (s.1.1.0.now, s.1.0.now)) ≡ left κs a)
read_only_by pre left κs a x y v w h p q = let e = p ∙ sym q in (first e, λ i. at_exit (ended_of 3 market_read.Kinds.ps market_read.Kinds.r) κs a (v.0, (rest (rest e) i, (first (rest e) i, tt))))

write_only_by : (pre : In 3 market-write.Kinds.ps) (left : (κs : Lfts 3) → Dens κs market-write.Kinds.ps → ℕ × (ℕ × List ℕ)) → Only 3 market-write.Kinds.ps market-write.Kinds.r pre (λ κs a x s. (x, (s.1.1.1.0.now, s.1.1.0.now)) ≡ left κs a)
write_only_by pre left κs a x y v w h p q = let e = p ∙ sym q in (first e, λ i. at_exit (ended_of 3 market-write.Kinds.ps market-write.Kinds.r) κs a (v.0, (v.1.0, (rest (rest e) i, (first (rest e) i, tt)))))

pub market_size_only : Only 2 market_size.Kinds.ps market_size.Kinds.r market_size.Reads.Pre market_size.Reads.Post
market_size_only κs a x y v w h p q = let e = p ∙ sym q in (first e, λ i. at_exit (ended_of 2 market_size.Kinds.ps market_size.Kinds.r) κs a (v.0, (rest e i, tt)))

pub market_read_only : Only 3 market_read.Kinds.ps market_read.Kinds.r market_read.Reads.Pre market_read.Reads.Post
market_read_only = read_only_by market_read.Reads.Pre _

pub market_write_only : Only 3 market-write.Kinds.ps market-write.Kinds.r market-write.Reads.Pre market-write.Reads.Post
market_write_only = write_only_by market-write.Reads.Pre _

pub hyper_market_read_only : Only 3 hyper-market-read.Kinds.ps hyper-market-read.Kinds.r hyper-market-read.Reads.Pre hyper-market-read.Reads.Post
hyper_market_read_only = read_only_by hyper-market-read.Reads.Pre _

pub hyper_market_write_only : Only 3 hyper-market-write.Kinds.ps hyper-market-write.Kinds.r hyper-market-write.Reads.Pre hyper-market-write.Reads.Post
hyper_market_write_only = write_only_by hyper-market-write.Reads.Pre _
