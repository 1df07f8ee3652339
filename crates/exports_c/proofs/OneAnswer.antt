-- No second outcome meets the promise of what C links: each export has the contract of the function of its name in `exports`, by computation alone. Assumes nothing.
use Rattle.real.proofs.Only.{Only}
use Rattle.exports.proofs.OneAnswer as of_exports
use Rattle.exports_c.proofs.root.evindrast_sqrt as sqrt
use Rattle.exports_c.proofs.root.evindrast_sqrt_word as sqrt-word
use Rattle.exports_c.proofs.record.evindrast_record as by_number
use Rattle.exports_c.proofs.record.evindrast_sum as sum
use Rattle.exports_c.proofs.record.evindrast_product as product
use Rattle.exports_c.proofs.operators.evindrast_add as add
use Rattle.exports_c.proofs.operators.evindrast_sub as sub
use Rattle.exports_c.proofs.operators.evindrast_mul as mul
use Rattle.exports_c.proofs.operators.evindrast_div as div
use Rattle.exports_c.proofs.linalg.evindrast_lu as lu
use Rattle.exports_c.proofs.linalg.evindrast_solve as solve
use Rattle.exports_c.proofs.linalg.evindrast_determinant as determinant
use Rattle.exports_c.proofs.linalg.evindrast_inverse as inverse
use Rattle.exports_c.proofs.linalg.evindrast_jacobi_eigenvalue as jacobi
use Rattle.exports_c.proofs.hyperdual_linalg.evindrast_hyperdual_lu as hyper-lu
use Rattle.exports_c.proofs.hyperdual_linalg.evindrast_hyperdual_solve as hyper-solve
use Rattle.exports_c.proofs.hyperdual_linalg.evindrast_hyperdual_determinant as hyper-determinant
use Rattle.exports_c.proofs.hyperdual_linalg.evindrast_hyperdual_inverse as hyper-inverse
use Rattle.exports_c.proofs.matrix_market.evindrast_market_size as market_size
use Rattle.exports_c.proofs.matrix_market.evindrast_market_read as market_read
use Rattle.exports_c.proofs.matrix_market.evindrast_market_write as market-write
use Rattle.exports_c.proofs.matrix_market.evindrast_hyperdual_market_read as hyper-market-read
use Rattle.exports_c.proofs.matrix_market.evindrast_hyperdual_market_write as hyper-market-write

pub sqrt_only : Only 0 sqrt.Kinds.ps sqrt.Kinds.r sqrt.Reads.Pre sqrt.Reads.Post
sqrt_only = of_exports.sqrt_only

pub sqrt_word_only : Only 0 sqrt-word.Kinds.ps sqrt-word.Kinds.r sqrt-word.Reads.Pre sqrt-word.Reads.Post
sqrt_word_only = of_exports.sqrt_word_only

pub lu_only : Only 4 lu.Kinds.ps lu.Kinds.r lu.Reads.Pre lu.Reads.Post
lu_only = of_exports.lu_only

pub solve_only : Only 4 solve.Kinds.ps solve.Kinds.r solve.Reads.Pre solve.Reads.Post
solve_only = of_exports.solve_only

pub determinant_only : Only 4 determinant.Kinds.ps determinant.Kinds.r determinant.Reads.Pre determinant.Reads.Post
determinant_only = of_exports.determinant_only

pub inverse_only : Only 3 inverse.Kinds.ps inverse.Kinds.r inverse.Reads.Pre inverse.Reads.Post
inverse_only = of_exports.inverse_only

pub jacobi_only : Only 4 jacobi.Kinds.ps jacobi.Kinds.r jacobi.Reads.Pre jacobi.Reads.Post
jacobi_only = of_exports.jacobi_only

pub hyper_lu_only : Only 4 hyper-lu.Kinds.ps hyper-lu.Kinds.r hyper-lu.Reads.Pre hyper-lu.Reads.Post
hyper_lu_only = of_exports.hyper_lu_only

pub hyper_solve_only : Only 4 hyper-solve.Kinds.ps hyper-solve.Kinds.r hyper-solve.Reads.Pre hyper-solve.Reads.Post
hyper_solve_only = of_exports.hyper_solve_only

pub hyper_determinant_only : Only 6 hyper-determinant.Kinds.ps hyper-determinant.Kinds.r hyper-determinant.Reads.Pre hyper-determinant.Reads.Post
hyper_determinant_only = of_exports.hyper_determinant_only

pub hyper_inverse_only : Only 3 hyper-inverse.Kinds.ps hyper-inverse.Kinds.r hyper-inverse.Reads.Pre hyper-inverse.Reads.Post
hyper_inverse_only = of_exports.hyper_inverse_only

pub record_only : Only 3 by_number.Kinds.ps by_number.Kinds.r by_number.Reads.Pre by_number.Reads.Post
record_only = of_exports.record_only

pub add_only : Only 2 add.Kinds.ps add.Kinds.r add.Reads.Pre add.Reads.Post
add_only = of_exports.add_only

pub sub_only : Only 2 sub.Kinds.ps sub.Kinds.r sub.Reads.Pre sub.Reads.Post
sub_only = of_exports.sub_only

pub mul_only : Only 2 mul.Kinds.ps mul.Kinds.r mul.Reads.Pre mul.Reads.Post
mul_only = of_exports.mul_only

pub div_only : Only 2 div.Kinds.ps div.Kinds.r div.Reads.Pre div.Reads.Post
div_only = of_exports.div_only

pub sum_only : Only 2 sum.Kinds.ps sum.Kinds.r sum.Reads.Pre sum.Reads.Post
sum_only = of_exports.sum_only

pub product_only : Only 2 product.Kinds.ps product.Kinds.r product.Reads.Pre product.Reads.Post
product_only = of_exports.product_only

pub market_size_only : Only 2 market_size.Kinds.ps market_size.Kinds.r market_size.Reads.Pre market_size.Reads.Post
market_size_only = of_exports.market_size_only

pub market_read_only : Only 3 market_read.Kinds.ps market_read.Kinds.r market_read.Reads.Pre market_read.Reads.Post
market_read_only = of_exports.market_read_only

pub market_write_only : Only 3 market-write.Kinds.ps market-write.Kinds.r market-write.Reads.Pre market-write.Reads.Post
market_write_only = of_exports.market_write_only

pub hyper_market_read_only : Only 3 hyper-market-read.Kinds.ps hyper-market-read.Kinds.r hyper-market-read.Reads.Pre hyper-market-read.Reads.Post
hyper_market_read_only = of_exports.hyper_market_read_only

pub hyper_market_write_only : Only 3 hyper-market-write.Kinds.ps hyper-market-write.Kinds.r hyper-market-write.Reads.Pre hyper-market-write.Reads.Post
hyper_market_write_only = of_exports.hyper_market_write_only
