-- The one test over the list of situations.
use mathlib.Core.Path.{refl}
use Rattle.octets.specs.Lists.{all}
use Rattle.octets.proofs.Lists.{both}
use Rattle.situations.specs.Situations.{situations, Situations}
use Rattle.situations.proofs.Computed.{a_passes, b_passes, c_passes, d_passes, f_passes, g_passes, h_passes, i_passes, j_passes, k_passes}
use Rattle.situations.proofs.Full.{e_passes}

pub situations_hold : Situations
unfolding all situations
situations_hold =
    both a_passes
    (both b_passes
    (both c_passes (both d_passes (both e_passes (both f_passes (both g_passes (both h_passes (both i_passes (both j_passes (both k_passes refl))))))))))
