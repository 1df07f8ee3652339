-- The four operations of IEEE 754 at binary64, rounded to nearest with ties to even, and the constants of document 01 by their bits. Definitions only.
use Rattle.std.specs.Prelude.{Float}
use Rattle.std.specs.Float.{binary64}
use Rattle.std.specs.Float.Ieee.{add, sub, mul, div, of_bits}

infixl 60 ◌⊕◌ ◌⊖◌
infixl 70 ◌⊗◌ ◌⊘◌
-- a + b
abbrev pub ◌⊕◌ : Float → Float → Float
◌⊕◌ = add binary64

-- a - b
abbrev pub ◌⊖◌ : Float → Float → Float
◌⊖◌ = sub binary64

-- a * b
abbrev pub ◌⊗◌ : Float → Float → Float
◌⊗◌ = mul binary64

-- a / b
abbrev pub ◌⊘◌ : Float → Float → Float
◌⊘◌ = div binary64

-- +0.0
abbrev pub zero : Float
zero = of_bits binary64 0

-- 0.5
abbrev pub half : Float
half = of_bits binary64 0x3fe0_0000_0000_0000

-- 1.0
abbrev pub one : Float
one = of_bits binary64 0x3ff0_0000_0000_0000

-- 2.0
abbrev pub two : Float
two = of_bits binary64 0x4000_0000_0000_0000

-- 3.0
abbrev pub three : Float
three = of_bits binary64 0x4008_0000_0000_0000

-- 6.0
abbrev pub six : Float
six = of_bits binary64 0x4018_0000_0000_0000

-- 10.0
abbrev pub ten : Float
ten = of_bits binary64 0x4024_0000_0000_0000

-- 15.0
abbrev pub fifteen : Float
fifteen = of_bits binary64 0x402e_0000_0000_0000

-- 30.0
abbrev pub thirty : Float
thirty = of_bits binary64 0x403e_0000_0000_0000

-- the float nearest 1/3
abbrev pub third : Float
third = of_bits binary64 0x3fd5_5555_5555_5555

-- ln 2: 0.6931471805599453
abbrev pub ln2 : Float
ln2 = of_bits binary64 0x3fe6_2e42_fefa_39ef

-- ln 10: 2.302585092994046
abbrev pub ln10 : Float
ln10 = of_bits binary64 0x4002_6bb1_bbb5_5516

-- 2 ^ -52, the distance from 1 to the next float
abbrev pub epsilon : Float
epsilon = of_bits binary64 0x3cb0_0000_0000_0000
