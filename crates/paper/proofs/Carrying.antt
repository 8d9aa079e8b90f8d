-- What a request's checks compare is what the table has it carry: each kind computes.
use mathlib.Core.Path.{refl}
use Rattle.paper.specs.Requests.{path, witness, join, pair, raise, swap, first, place, turn, chain, adopt, set_to, clear, ask, ask_none, unlock}
use Rattle.paper.specs.Carrying.{CarriesJustThese}

pub carries_just_these : CarriesJustThese
carries_just_these D s (path x x' sides l) = refl
carries_just_these D s (witness x y m) = refl
carries_just_these D s (join x y x' y' m1 z z' m2) = refl
carries_just_these D s (pair x1 y x1' y' m1 x2 z x2' z' m2) = refl
carries_just_these D s (raise x1 x2 y x1' x2' y' m1 z z' m2) = refl
carries_just_these D s (swap x1 x2 y y' m) = refl
carries_just_these D s (first A) = refl
carries_just_these D s (place A A' B' ω y y' m) = refl
carries_just_these D s (turn x y m) = refl
carries_just_these D s (chain x y m1 z m2) = refl
carries_just_these D s (adopt y y' m) = refl
carries_just_these D s (set_to A A' old v y y' m) = refl
carries_just_these D s (clear A A' old y y' m) = refl
carries_just_these D s (ask q A A' r y m) = refl
carries_just_these D s (ask_none q) = refl
carries_just_these D s (unlock k) = refl
