use Rattle.calculus.proofs.Need.{net_is, peak_is, same_net, peak_once, peaks_found, peak_of_listing, peak_of_left}
use Rattle.calculus.proofs.need_stands.Goals as goal

pub returns : goal.returns
returns c = record { net = net_is; peak = peak_is; branches = same_net; once = peak_once; found = peaks_found; listing = peak_of_listing; left = peak_of_left }
