-- What a test of two parts says of each, in the form that the law files cite.
use mathlib.Core.Path.{◌≡◌}
use mathlib.Core.Bool.{Bool, true, ◌&&◌, and-eq-true_iff}

pub and_left : (a b : Bool) → a && b ≡ true → a ≡ true
and_left a b e = ((and-eq-true_iff a b).0 e).0

pub and_right : (a b : Bool) → a && b ≡ true → b ≡ true
and_right a b e = ((and-eq-true_iff a b).0 e).1
