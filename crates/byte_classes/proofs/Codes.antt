-- A class as a number is its number, so a test of two classes for equality is one of their numbers.
use mathlib.Core.Path.{◌≡◌, refl, sym, ap, ◌∙◌}
use lib.Dec.{eqb}
use denote.Enum.Bare.{sameb, tag_one}
use denote.Enum.Declared.{tag_of}
use Rattle.byte_classes.specs.contracts.classes.Class.{the_type}
use Rattle.byte_classes.specs.declared.classes.Class.{Class}
use Rattle.byte_classes.specs.declared.classes.Class.TheVariants.{
  Blank,
  Letter,
  Digit,
  Underscore,
  Sign,
  Quote,
  Opening,
  Closing,
  Semicolon,
  Other,
}
use Rattle.byte_classes.specs.Classes.{class_code}

pub tag_code : (a : Class) → tag_of the_type a ≡ class_code a
tag_code Blank = refl
tag_code Letter = refl
tag_code Digit = refl
tag_code Underscore = refl
tag_code Sign = refl
tag_code Quote = refl
tag_code Opening = refl
tag_code Closing = refl
tag_code Semicolon = refl
tag_code Other = refl

pub same_code : (a b : Class) → sameb the_type a b ≡ eqb (class_code a) (class_code b)
same_code a b = ap (λ n. eqb n (tag_of the_type b)) (tag_code a) ∙ ap (eqb (class_code a)) (tag_code b)

-- Two classes of one number are one class.
pub one_class : (a b : Class) → class_code a ≡ class_code b → a ≡ b
one_class a b e = tag_one the_type tt a b (tag_code a ∙ e ∙ sym (tag_code b))
