use Rattle.ready.proofs.Firsts.{first_none, first_some_lem, first_above, asks_first, id_none, in_row, id_below, id_some}
use Rattle.ready.proofs.Trees.{row_of}
use mathlib.Core.Path.{◌∙◌, sym}
use native.Mathlib.Omega.{arith}
use Rattle.ready.proofs.+first_word_lowest.Goals as goal

pub first_word-lowest-requires : goal.first_word-lowest-requires
first_word-lowest-requires t c =
    let a = asks_first c.requires.tree c.if-n-gt-WIDTH.true in
    (omega (arith, a.0), a.1)

pub first_word-returns-then-n-gt-WIDTH : goal.first_word-returns-then-n-gt-WIDTH
first_word-returns-then-n-gt-WIDTH t c = c.lowest.ensures ∙ first_above c.requires.tree c.if-n-gt-WIDTH.true

pub first_word-returns-then-rows-eq0 : goal.first_word-returns-then-rows-eq0
first_word-returns-then-rows-eq0 t c = rw (first_none c.args.rows.now c.args.n c.requires.le_n c.if-n-gt-WIDTH.false c.if-rows-eq0.true)

pub first_word-returns : goal.first_word-returns
first_word-returns t c = rw (first_some_lem c.args.rows.now c.args.n c.requires.le_n c.if-n-gt-WIDTH.false c.if-rows-eq0.false)

pub lowest-first_word-requires : goal.lowest-first_word-requires
lowest-first_word-requires t c = (omega arith, (c.requires.le_n, c.requires.tree))

pub lowest-returns-in_err-k : goal.lowest-returns-in_err-k
lowest-returns-in_err-k t c = rw (id_none c.requires.tree (sym c.first_word.ensures ∙ c.in_err-k.was)) c.from_residual.ensures

pub lowest-overflow_mul-result : goal.lowest-overflow_mul-result
lowest-overflow_mul-result t c = let e = (sym c.first_word.ensures ∙ c.in_ok-k.was) in omega (arith, id_below c.requires.tree e (c.type_inv.rows c.in_ok-k.k).fits)

pub lowest-offset_bounds-rows-k : goal.lowest-offset_bounds-rows-k
lowest-offset_bounds-rows-k t c = let e = (sym c.first_word.ensures ∙ c.in_ok-k.was) in omega (arith, in_row c.requires.tree e (c.type_inv.rows c.in_ok-k.k).fits, (row_of c.requires.tree).fits)

pub lowest-bounds-rows-k : goal.lowest-bounds-rows-k
lowest-bounds-rows-k t c = let e = (sym c.first_word.ensures ∙ c.in_ok-k.was) in omega (arith, in_row c.requires.tree e (c.type_inv.rows c.in_ok-k.k).fits, (row_of c.requires.tree).fits)

pub lowest-overflow_add-result : goal.lowest-overflow_add-result
lowest-overflow_add-result t c = let e = (sym c.first_word.ensures ∙ c.in_ok-k.was) in omega (arith, id_below c.requires.tree e (c.type_inv.rows c.in_ok-k.k).fits)

pub lowest-returns : goal.lowest-returns
lowest-returns t c = let e = (sym c.first_word.ensures ∙ c.in_ok-k.was) in rw (id_some c.requires.tree e (c.type_inv.rows c.in_ok-k.k).fits)
