-- Four ways out, in the order of the definition.
use Rattle.std.proofs.Common.{T, sym, subst, rules, ◌∙◌}
use lib.Ieee.{of_bits, neg, ne}
use borrow.Author.Tests.{not-true, not-false}
use Rattle.texts.proofs.Every.{both_true}
use Rattle.market_writer.proofs.WholeParts.{whole_out, whole_large, whole_broken, whole_is}
use Rattle.market_writer.proofs.numbers.whole.Goals as goal
use Rattle.market_writer.proofs.numbers.whole.Goals.{then-v-gt-LARGEST_WHOLE-via-then-v-gt-LARGEST_WHOLE, then-v-gt-LARGEST_WHOLE-via-else-v-gt-LARGEST_WHOLE+then-v-m}

pub returns-then-not-in_range : goal.returns-then-not-in_range
returns-then-not-in_range c = whole_out _ _ c.magnitude-m.ensures _ c.in_range.ensures c.if-not-in_range.true

-- the range is where the whole part fits
pub truncating_f64_to_u64-v-requires : goal.truncating_f64_to_u64-v-requires
unfolding of_bits neg
truncating_f64_to_u64-v-requires c = let both = both_true _ _ (sym c.in_range.ensures ∙ c.if-not-in_range.false) in record { lower_bound = subst T (sym both.0) tt; upper_bound = subst T (sym both.1) tt }

pub returns-then-v-gt-LARGEST_WHOLE : goal.returns-then-v-gt-LARGEST_WHOLE
unfolding ne
returns-then-v-gt-LARGEST_WHOLE c =
    elim c.then-v-gt-LARGEST_WHOLE.branch [
      | then-v-gt-LARGEST_WHOLE-via-then-v-gt-LARGEST_WHOLE w ↦ search (rules, whole_large)
      | then-v-gt-LARGEST_WHOLE-via-else-v-gt-LARGEST_WHOLE+then-v-m w ↦ search (rules, whole_broken, not-true)
    ]

pub returns : goal.returns
unfolding ne
returns c = search (rules, whole_is, not-false)
