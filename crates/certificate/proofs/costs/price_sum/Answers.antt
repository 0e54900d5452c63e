use Rattle.std.proofs.Common.{◌≡◌, ◌+◌, ◌*◌, ◌≤◌, sym, ap, ◌∙◌, take, arith}
use Rattle.std.proofs.Math.Nat.{mul-le-mul}
use Rattle.std.proofs.lemmas.List.{take_all}
use Rattle.cpu_set.specs.declared.TheConstants.{CPU_LIMIT}
use Rattle.certificate.specs.Price.{all_prices}
use Rattle.certificate.specs.declared.limits.TheConstants.{MAX_AMOUNT}
use Rattle.certificate.proofs.PriceSums.{prices_more, all_prices_small, no_prices, amount_small}
use Rattle.certificate.proofs.costs.price_sum.Goals as goal
use Rattle.certificate.proofs.costs.price_sum.Goals.{After-from}

pub loop-at-init : goal.loop-at-init
loop-at-init c = sym (no_prices c.args.prices.now)

-- the sum after one price more
after : (c : After-from) → c.loop-at.sum + c.price-price.result.amount * c.from.result ≡ all_prices (take (c.loop-at.at + 1) c.args.prices.now)
after c =
    rw (c.loop-at.invariant, c.from.ensures, c.count.ensures.is_len)
    (sym (prices_more c.args.prices.now c.loop-at.at c.price-price.result (omega (arith, c.len-at-end.ensures, c.loop-at-test.true)) c.price-price.ensures c.requires c.count.ensures.in_range))

pub overflow_mul-sum : goal.overflow_mul-sum
overflow_mul-sum c =
    let amount : c.price-price.result.amount ≤ MAX_AMOUNT = amount_small c.args.prices.now c.loop-at.at c.price-price.result c.requires (omega (arith, c.len-at-end.ensures, c.loop-at-test.true)) c.price-price.ensures in
    let count : c.from.result ≤ CPU_LIMIT = rw c.from.ensures c.count.ensures.small in
    let product : c.price-price.result.amount * c.from.result ≤ MAX_AMOUNT * CPU_LIMIT = mul-le-mul amount count in
    omega arith

pub overflow_add-sum : goal.overflow_add-sum
overflow_add-sum c =
    let small : all_prices (take (c.loop-at.at + 1) c.args.prices.now) ≤ CPU_LIMIT * MAX_AMOUNT =
    all_prices_small c.args.prices.now (c.loop-at.at + 1) c.requires in
    rw (after c) (omega arith)

pub loop-at-preserved : goal.loop-at-preserved
loop-at-preserved c = after c

pub returns-clause-sum : goal.returns-clause-sum
returns-clause-sum c = c.loop-at.invariant ∙ ap all_prices (take_all c.loop-at.at c.args.prices.now (omega arith))

pub returns-clause-small : goal.returns-clause-small
returns-clause-small c = rw c.loop-at.invariant (all_prices_small c.args.prices.now c.loop-at.at c.requires)
