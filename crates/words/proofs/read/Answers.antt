-- The words one after the other, as far as they were looked for.
use Rattle.std.proofs.Common.{sym}
use Rattle.words.specs.Reading.{word_in}
use Rattle.words.proofs.Cuts.{sixth}
use Rattle.words.proofs.read.Goals as goal

pub returns-in_err-rest : goal.returns-in_err-rest
unfolding word_in
returns-in_err-rest c =
    let one = rw c.in_err-rest.was at c.first_word.ensures in
    rw one c.from_residual.ensures

pub returns-in_err-read : goal.returns-in_err-read
unfolding word_in
returns-in_err-read c =
    let one = rw c.in_ok-rest.was at c.first_word.ensures in
    let two = rw c.in_default.is at c.first_word-2.ensures in
    rw (one, two, ← c.in_err-read.ensures) c.from_residual-in_err-read.ensures

pub returns-in_default : goal.returns-in_default
unfolding word_in
returns-in_default c =
    let one = rw c.in_ok-rest.was at c.first_word.ensures in
    let two = rw c.in_default.is at c.first_word-2.ensures in
    rw (one, two, ← c.in_ok-read.ensures) c.by_name.ensures

pub returns-in_err-rest-2 : goal.returns-in_err-rest-2
unfolding word_in
returns-in_err-rest-2 c =
    let one = rw c.in_ok-rest.was at c.first_word.ensures in
    let two = rw c.in-Some.is at c.first_word-2.ensures in
    let three = rw c.in_err-rest-2.was at c.first_word-3.ensures in
    rw (one, two, three) c.from_residual-in_err-rest-2.ensures

pub returns-in_err-rest-3 : goal.returns-in_err-rest-3
unfolding word_in
returns-in_err-rest-3 c =
    let one = rw c.in_ok-rest.was at c.first_word.ensures in
    let two = rw c.in-Some.is at c.first_word-2.ensures in
    let three = rw c.in_ok-rest-2.was at c.first_word-3.ensures in
    let four = rw c.in_err-rest-3.was at c.first_word-4.ensures in
    rw (one, two, three, four) c.from_residual-in_err-rest-3.ensures

pub returns-in-None : goal.returns-in-None
unfolding word_in
returns-in-None c =
    let one = rw c.in_ok-rest.was at c.first_word.ensures in
    let two = rw c.in-Some.is at c.first_word-2.ensures in
    let three = rw c.in_ok-rest-2.was at c.first_word-3.ensures in
    let four = rw c.in_ok-rest-3.was at c.first_word-4.ensures in
    let five = rw c.in-None.is at c.first_word-5.ensures in
    rw (one, two, three, four, five) c.by_four.ensures

pub returns-in-Some-rest : goal.returns-in-Some-rest
unfolding word_in
returns-in-Some-rest c =
    let one = rw c.in_ok-rest.was at c.first_word.ensures in
    let two = rw c.in-Some.is at c.first_word-2.ensures in
    let three = rw c.in_ok-rest-2.was at c.first_word-3.ensures in
    let four = rw c.in_ok-rest-3.was at c.first_word-4.ensures in
    let five = rw c.in-Some-rest.is at c.first_word-5.ensures in
    rw (one, two, three, four, five) (sym (sixth c.first_word.result.0.now c.first_word-2.result.0.now c.first_word-3.result.0.now c.first_word-4.result.0.now
    c.first_word-5.result.0.now c.in-Some-rest.field-0.now))
