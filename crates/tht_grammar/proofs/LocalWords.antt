-- The readers of names, numbers and sorts look no further than the first token that they do not take.
use Rattle.std.proofs.Common.{Bool, true, false, Option, Some, None, nat_le}
use Rattle.tht_tree.specs.declared.plain.Sort.{Sort}
use Rattle.tht_tree.specs.declared.token.TokenKind.{TokenKind}
use Rattle.tht_tree.specs.declared.token.TokenKind.TheVariants as k
use Rattle.tht_tree.specs.declared.decl.Initial.TheVariants as v
use Rattle.tht_grammar.specs.Steps.{is}
use Rattle.tht_grammar.specs.Reading as r
use Rattle.tht_grammar.specs.Reading.{sort_kind}
use Rattle.tht_grammar.proofs.Local.{IsLocal, local_pure, local_refuse, local_look, local_spelled, local_valued, local_next, local_then, local_map, local_after, local_close, local_listed}

-- ---- names, numbers and sorts

local_name_by : (b : Bool) → IsLocal (r.name_by b)
local_name_by true = local_spelled (λ w. local_next (local_pure w))
local_name_by false = local_refuse

pub local_name : IsLocal r.name
unfolding r.name
local_name = local_look (λ o. local_name_by (is k.Name o))

local_number_by : (b : Bool) → IsLocal (r.number_by b)
local_number_by true = local_valued (λ n. local_next (local_pure n))
local_number_by false = local_refuse

pub local_number : IsLocal r.number
unfolding r.number
local_number = local_look (λ o. local_number_by (is k.Num o))

local_small_by : (b : Bool) → IsLocal (r.small_by b)
local_small_by true = local_number
local_small_by false = local_refuse

pub local_offset : IsLocal r.offset
unfolding r.offset
local_offset = local_valued (λ n. local_small_by (nat_le n 7))

local_sort_by : (z : Option Sort) → IsLocal (r.sort_by z)
local_sort_by (Some z) = local_next (local_pure z)
local_sort_by None = local_refuse

pub local_sort : IsLocal r.sort
unfolding r.sort
local_sort = local_look (λ o. local_sort_by (sort_kind o))

pub local_param : IsLocal r.param
unfolding r.param
local_param = local_then local_name (λ x. local_after k.Colon (local_map _ local_sort))

pub local_params : IsLocal r.params
unfolding r.params
local_params = local_after k.LParen (local_then (local_listed (is k.Name) local_param 16) (λ ps. local_close k.RParen _))

pub local_logic : IsLocal r.logic
unfolding r.logic
local_logic = local_after k.LBracket (local_then (local_listed (is k.Name) local_param 16) (λ ps. local_close k.RBracket _))

pub local_nums : IsLocal r.nums
unfolding r.nums
local_nums = local_after k.LParen (local_then (local_listed (is k.Num) local_number 64) (λ is. local_close k.RParen _))

local_initial_by : (o : Option TokenKind) → IsLocal (r.initial_by o)
local_initial_by (Some k.Num) = local_valued (λ n. local_next (local_pure (v.Num n)))
local_initial_by (Some k.True) = local_next (local_pure v.True)
local_initial_by (Some k.False) = local_next (local_pure v.False)
local_initial_by (Some k.Null) = local_next (local_pure v.Null)
local_initial_by (Some k.LParen) = local_next (local_close k.RParen _)
local_initial_by (Some k.Name) = local_spelled (λ w. local_next (local_pure (v.Root w)))
local_initial_by _ = local_refuse

pub local_initial : IsLocal r.initial
unfolding r.initial
local_initial = local_look local_initial_by
