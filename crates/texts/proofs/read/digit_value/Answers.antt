-- Each answer by where the byte lies: among the digits, among the letters, or under, between and over them.
use Rattle.std.proofs.Common.{rules}
use Rattle.texts.proofs.Digits.{digit_is, digit_none, value_under_digits, value_digit, value_between, value_letter, value_over_letters}
use Rattle.texts.proofs.read.digit_value.Goals as goal

pub returns-in-48-to-57 : goal.returns-in-48-to-57
returns-in-48-to-57 c = search (rules, digit_is, value_digit)

pub returns-in-97-to-102 : goal.returns-in-97-to-102
returns-in-97-to-102 c = search (rules, digit_is, value_letter)

pub returns-in_default : goal.returns-in_default
returns-in_default c = digit_none 16 c.args.b 16 (search (rules, value_under_digits)) (search rules)

pub returns-in_default-2 : goal.returns-in_default-2
returns-in_default-2 c = digit_none 16 c.args.b 16 (search (rules, value_between)) (search rules)

pub returns-in_default-3 : goal.returns-in_default-3
returns-in_default-3 c = digit_none 16 c.args.b 16 (search (rules, value_over_letters)) (search rules)
